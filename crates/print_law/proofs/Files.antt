-- The parts of the canonical text of a program.
use Rattle.std.proofs.Common.{◌≡◌, ℕ, suc, ℤ, pos, negsuc, eqb, Bool, true, false, ◌&&◌, List, [], ◌∷◌, ◌++◌, Option, Some, None, append_assoc, append-nil, refl, ap, sym, ◌∙◌, subst, codes, arith}
use Rattle.std.proofs.lemmas.Bool.{eq-eqb, eqb-true, and_parts}
use Rattle.std.proofs.lemmas.Fmt.{decimal_digit}
use Rattle.std.specs.Fmt.{decimal}
use Rattle.std.specs.List.{list_all, count_by}
use Rattle.std.specs.Str.{bytes_eq}
use Rattle.cfix_base.specs.declared.number.OrderId.{OrderId}
use Rattle.cfix_base.specs.declared.spot.Spot.{Spot}
use Rattle.c_lex.specs.Bytes.{is_line_feed}
use Rattle.c_lex.specs.Faults.{spot_behind}
use Rattle.c_prog.specs.declared.function.FnKind.{FnKind}
use Rattle.c_prog.specs.declared.function.FnKind.TheVariants as gives
use Rattle.c_prog.specs.declared.function.Function.{Function}
use Rattle.c_prog.specs.declared.global.Global.{Global}
use Rattle.c_prog.specs.declared.global.GlobalKind.{GlobalKind}
use Rattle.c_prog.specs.declared.global.GlobalKind.TheVariants as kind
use Rattle.c_prog.specs.declared.tree.Tree.{Tree}
use Rattle.c_prog.specs.Patched.{tree_patched}
use Rattle.c_grammar.specs.declared.sign.Sign.TheVariants as s
use Rattle.c_grammar.specs.declared.word.Word.{Word}
use Rattle.c_grammar.specs.declared.word.Word.TheVariants as w
use Rattle.c_grammar.specs.Token.{Kind, IsName, IsNumber, IsQuoted, IsWord, IsSign, Token, Mark, Numeral, word, sign, ident}
use Rattle.c_grammar.specs.Decl as l
use Rattle.c_grammar.specs.Op as o
use Rattle.c_grammar.specs.Stmt as t
use Rattle.c_grammar.specs.File as f
use Rattle.c_grammar.specs.Marks.{tokens, each}
use Rattle.c_print.specs.Text.Names.{Names, name_at, names_in}
use Rattle.print_law.proofs.Plain.{plain_body}
use Rattle.print_law.proofs.Items.{Item, Gap, Is, kinds, here, later, marked, spotted, after, joint}
use Rattle.print_law.proofs.Expressions.{ident_at}
use Rattle.print_law.proofs.Texts.{spelled, kind_text}
use Rattle.print_law.proofs.Apart.{fits, ends, Fits, both, fits-then, closed-paren}
use Rattle.print_law.proofs.Operations.{ops_items, ops_lines, ops_tree, ops-told}
use Rattle.print_law.proofs.Lines.{Line, Hold, hold-append, hold-braced, braced, all_fit, all_fit-append, all_fit-braced}
use Rattle.print_law.proofs.Statements.{stmts_items, stmts_tree, stmts-told, stmts-derived}
use Rattle.print_law.proofs.StatementLines.{stmts_lines, hold-ops, hold-stmts, stmts-fit, ops-fit}
use Rattle.print_law.proofs.Parts.{line_spots, spots_of, Part, Empty, One, line_behind, Law, AllLawful, lawful-append, counted}

-- includes and defines

abbrev pub quiet : Kind → Bool
quiet k = eqb (count_by is_line_feed (kind_text k)) 0

-- no token of the line has a line feed
abbrev pub all_quiet : Line → Bool
all_quiet [] = true
all_quiet (Gap ∷ line) = all_quiet line
all_quiet (Is k ∷ line) = quiet k && all_quiet line

level : (n : ℕ) (before : List ℕ) (line : Line) → all_quiet line ≡ true → line_behind before ≡ n → list_all (λ (s : Spot). eqb s.line n) (line_spots before line) ≡ true
level n before [] q h = refl
level n before (Gap ∷ line) q h = level n (before ++ 32 ∷ []) line q (let c = counted before (32 ∷ []) in omega (arith, c, h))
level n before (Is k ∷ line) q h =
    let qs = and_parts (quiet k) (all_quiet line) q in
    let none = eqb-true (count_by is_line_feed (kind_text k)) 0 qs.0 in
    both _ _ (eq-eqb (line_behind before) n h) (level n (before ++ kind_text k) line qs.1 (let c = counted before (kind_text k) in omega (arith, c, none, h)))

marked-level : (n : ℕ) (before : List ℕ) (line : Line) (rest : List Spot)
    → list_all (λ (t : Token). eqb t.spot.line n) (marked (line_spots before line ++ rest) (kinds line)) ≡ list_all (λ (s : Spot). eqb s.line n) (line_spots before line)
marked-level n before [] rest = refl
marked-level n before (Gap ∷ line) rest = marked-level n (before ++ 32 ∷ []) line rest
marked-level n before (Is k ∷ line) rest = ap (λ z. eqb (line_behind before) n && z) (marked-level n (before ++ kind_text k) line rest)

marks-level : (n : ℕ) (ms : List Mark) → list_all (f.stands_on n) ms ≡ list_all (λ (t : Token). eqb t.spot.line n) (tokens ms)
marks-level n [] = refl
marks-level n (m ∷ ms) = ap (λ z. eqb m.0.spot.line n && z) (marks-level n ms)

quiet-text : (line : Line) → all_quiet line ≡ true → count_by is_line_feed (spelled line) ≡ 0
quiet-text [] q = refl
quiet-text (Gap ∷ line) q = quiet-text line q
quiet-text (Is k ∷ line) q =
    let qs = and_parts (quiet k) (all_quiet line) q in
    let none = eqb-true (count_by is_line_feed (kind_text k)) 0 qs.0 in
    let more = quiet-text line qs.1 in
    let c = counted (kind_text k) (spelled line) in
    omega (arith, c, none, more)

same-some : (a b : ℕ) → Some a ≡ Some b → a ≡ b
same-some a b e = cc

directive : (line : Line) (tree : List Spot → f.Top)
    → ((spots : List Spot) → tokens (f.top_marks (tree spots)) ≡ spotted spots line) → fits line None ≡ true → all_quiet line ≡ true
    → ((spots : List Spot) → list_all (f.stands_on (here spots).line) (f.top_marks (tree spots)) ≡ true → f.is_top (tree spots) ≡ true)
    → ((spots : List Spot) → f.line_of (tree spots) ≡ Some (here spots).line)
    → ((before : List ℕ) (rest : List Spot) → here (line_spots before line ++ rest) ≡ spot_behind before)
    → Law (line ∷ []) line tree
directive line tree told fit quiet good at front = record {
  told = told;
  hold = append-nil (kinds line);
  fit = both _ _ fit refl;
  good = λ before rest.
      subst (λ (spots : List Spot). f.is_top (tree (spots ++ rest)) ≡ true) (sym (append-nil (line_spots before line)))
      (let spots = line_spots before line ++ rest in
      good spots (ap (λ (z : Spot). list_all (f.stands_on z.line) (f.top_marks (tree spots))) (front before rest)
      ∙ marks-level (line_behind before) (f.top_marks (tree spots)) ∙ ap (list_all (λ (t : Token). eqb t.spot.line (line_behind before))) (told spots)
      ∙ marked-level (line_behind before) before line rest ∙ level (line_behind before) before line quiet refl));
  ends = λ before rest n e.
      let nil = append-nil (line_spots before line) in
      let here_is : f.line_of (tree ((line_spots before line ++ []) ++ rest)) ≡ Some (line_behind before) =
      ap (λ (z : List Spot). f.line_of (tree (z ++ rest))) nil ∙ at (line_spots before line ++ rest) ∙ ap (λ (z : Spot). Some z.line) (front before rest) in
      let same : n ≡ line_behind before = same-some n (line_behind before) (sym e ∙ here_is) in
      let none = quiet-text line quiet in
      let c = counted before ((spelled line ++ 10 ∷ []) ++ []) in
      let d = counted (spelled line ++ 10 ∷ []) [] in
      let g = counted (spelled line) (10 ∷ []) in
      omega (arith, same, none, c, d, g);
}

-- a line of the header
abbrev pub include_line : List ℕ → Line
include_line name =
    Is (IsSign s.Hash) ∷ Is (IsName (codes "include")) ∷ Gap ∷ Is (IsSign s.Less) ∷ Is (IsName name) ∷ Is (IsSign s.Dot) ∷ Is (IsName (codes "h")) ∷ Is (IsSign s.Greater) ∷ []

abbrev pub token_at : Kind → List Spot → Token
token_at k spots = record { kind = k; spot = here spots }

abbrev pub include_tree : List ℕ → List Spot → f.Top
include_tree name spots =
    let inner = later (later (later spots)) in
    f.Include (here spots) (here (later spots))
    (f.Angled (here (later (later spots))) (token_at (IsName name) inner ∷ token_at (IsSign s.Dot) (later inner) ∷ token_at (IsName (codes "h")) (later (later inner)) ∷ [])
    (here (later (later (later inner)))))

include-law : (name : List ℕ) → all_quiet (include_line name) ≡ true → Law (include_line name ∷ []) (include_line name) (include_tree name)
include-law name q = directive (include_line name) (include_tree name) (λ spots. refl) refl q (λ spots h. both _ _ refl h) (λ spots. refl) (λ before rest. refl)

abbrev pub own_line : Line
own_line = Is (IsSign s.Hash) ∷ Is (IsName (codes "include")) ∷ Gap ∷ Is (IsQuoted (codes "cfix.h")) ∷ []

abbrev pub own_tree : List Spot → f.Top
own_tree spots = f.Include (here spots) (here (later spots)) (f.Quoted (record { bytes = codes "cfix.h"; spot = here (later (later spots)) }))

own-law : Law (own_line ∷ []) own_line own_tree
own-law = directive own_line own_tree (λ spots. refl) refl refl (λ spots h. both _ _ refl h) (λ spots. refl) (λ before rest. refl)

abbrev pub start_name : ℕ → List ℕ
start_name n = codes "CFIX_START_" ++ decimal n

abbrev pub start_line : ℕ → Line
start_line n = Is (IsSign s.Hash) ∷ Is (IsName (codes "define")) ∷ Gap ∷ Is (IsName (start_name n)) ∷ Gap ∷ Is (IsNumber (pos 1)) ∷ []

abbrev pub start_tree : ℕ → List Spot → f.Top
start_tree n spots =
    f.Define (here spots) (here (later spots)) (ident_at (start_name n) (later (later spots))) (f.Plainly (record { value = pos 1; spot = here (later (later (later spots))) }))

-- a number is written without a line feed
abbrev pub IsQuietNumber : ℕ → Type 0
IsQuietNumber n = count_by is_line_feed (decimal n) ≡ 0

start-quiet : (n : ℕ) → IsQuietNumber n → all_quiet (start_line n) ≡ true
start-quiet n h =
    let one : quiet (IsNumber (pos 1)) ≡ true = ap (λ z. eqb (count_by is_line_feed z) 0) (decimal_digit 1 (omega arith)) in
    both _ _ (eq-eqb (count_by is_line_feed (start_name n)) 0 h) (both _ _ one refl)

start-law : (n : ℕ) → IsQuietNumber n → Law (start_line n ∷ []) (start_line n) (start_tree n)
start-law n h = directive (start_line n) (start_tree n) (λ spots. refl) refl (start-quiet n h) (λ spots g. g) (λ spots. refl) (λ before rest. refl)

-- other parts

-- a part that is no include or define
plainly : (lines : List Line) (items : List Item) (tree : List Spot → f.Top) → ((spots : List Spot) → tokens (f.top_marks (tree spots)) ≡ spotted spots items)
    → Hold lines items → all_fit lines ≡ true → ((spots : List Spot) → f.is_top (tree spots) ≡ true) → ((spots : List Spot) → f.line_of (tree spots) ≡ None) → Law lines items tree
plainly lines items tree told hold fit good none = record {
  told = told;
  hold = hold;
  fit = fit;
  good = λ before rest. good (spots_of before lines ++ rest);
  ends = λ before rest n e. absurd (some-none n (sym e ∙ none (spots_of before lines ++ rest)));
}
  where
    some-none : (n : ℕ) → Some n ≡ None → ⊥
    some-none n e = cc

-- global variables

abbrev pub number_of : ℕ → List Spot → Numeral
number_of n spots = record { value = pos n; spot = here spots }

abbrev pub initial_items : ℤ → Line
initial_items (pos n) = Is (IsNumber (pos n)) ∷ []
initial_items (negsuc n) = Is (IsSign s.Minus) ∷ Is (IsNumber (pos (suc n))) ∷ []

abbrev pub initial_minus : ℤ → List Spot → Option Spot
initial_minus (pos n) spots = None
initial_minus (negsuc n) spots = Some (here spots)

abbrev pub initial_size : ℤ → List Spot → Numeral
initial_size (pos n) spots = number_of n spots
initial_size (negsuc n) spots = number_of (suc n) (later spots)

abbrev pub length_line : Word → List ℕ → ℕ → Line
length_line x name n =
    Is (IsWord x) ∷ Gap ∷ Is (IsName name) ∷ Is (IsSign s.OpenBracket) ∷ Is (IsNumber (pos n)) ∷ Is (IsSign s.CloseBracket) ∷ Is (IsSign s.Semicolon) ∷ []

abbrev pub global_line : List ℕ → GlobalKind → Line
global_line name (kind.Int initial) =
    Is (IsWord w.Int) ∷ Gap ∷ Is (IsName name) ∷ Gap ∷ Is (IsSign s.Assign) ∷ Gap ∷ (initial_items initial ++ Is (IsSign s.Semicolon) ∷ [])
global_line name (kind.IntArray n) = length_line w.Int name n
global_line name kind.Thread = Is (IsWord w.Thread) ∷ Gap ∷ Is (IsName name) ∷ Is (IsSign s.Semicolon) ∷ []
global_line name (kind.ThreadArray n) = length_line w.Thread name n
global_line name kind.Mutex =
    Is (IsWord w.Mutex) ∷ Gap ∷ Is (IsName name) ∷ Gap ∷ Is (IsSign s.Assign) ∷ Gap ∷ Is (IsWord w.MutexInitializer) ∷ Is (IsSign s.Semicolon) ∷ []
global_line name kind.Cond =
    Is (IsWord w.Cond) ∷ Gap ∷ Is (IsName name) ∷ Gap ∷ Is (IsSign s.Assign) ∷ Gap ∷ Is (IsWord w.CondInitializer) ∷ Is (IsSign s.Semicolon) ∷ []

abbrev pub global_tree : List ℕ → GlobalKind → List Spot → f.Top
global_tree name (kind.Int initial) spots =
    let behind = later (later (later spots)) in
    f.Variables [] (l.GlobalInts (here spots) (l.SetGlobal (ident_at name (later spots)) (here (later (later spots))) (initial_minus initial behind) (l.Count (initial_size initial behind))) [])
    (here (after behind (initial_items initial)))
global_tree name (kind.IntArray n) spots =
    f.Variables [] (l.GlobalInts (here spots) (l.GlobalArray (ident_at name (later spots)) (here (later (later spots))) (l.Count (number_of n (later (later (later spots)))))
    (here (later (later (later (later spots)))))) []) (here (later (later (later (later (later spots))))))
global_tree name kind.Thread spots = f.Variables [] (l.GlobalHolds (here spots) (l.OneThread (ident_at name (later spots))) []) (here (later (later spots)))
global_tree name (kind.ThreadArray n) spots =
    f.Variables [] (l.GlobalHolds (here spots) (l.Threads (ident_at name (later spots)) (here (later (later spots))) (l.Count (number_of n (later (later (later spots)))))
    (here (later (later (later (later spots)))))) []) (here (later (later (later (later (later spots))))))
global_tree name kind.Mutex spots =
    f.Variables [] (l.GlobalMutexes (here spots) (l.SetMutex (ident_at name (later spots)) (here (later (later spots))) (here (later (later (later spots))))) [])
    (here (later (later (later (later spots)))))
global_tree name kind.Cond spots =
    f.Variables [] (l.GlobalConds (here spots) (l.SetCond (ident_at name (later spots)) (here (later (later spots))) (here (later (later (later spots))))) [])
    (here (later (later (later (later spots)))))

global-law : (name : List ℕ) (k : GlobalKind) → Law (global_line name k ∷ []) (global_line name k) (global_tree name k)
global-law name (kind.Int (pos n)) = plainly _ _ _ (λ spots. refl) refl refl (λ spots. refl) (λ spots. refl)
global-law name (kind.Int (negsuc n)) = plainly _ _ _ (λ spots. refl) refl refl (λ spots. refl) (λ spots. refl)
global-law name (kind.IntArray n) = plainly _ _ _ (λ spots. refl) refl refl (λ spots. refl) (λ spots. refl)
global-law name kind.Thread = plainly _ _ _ (λ spots. refl) refl refl (λ spots. refl) (λ spots. refl)
global-law name (kind.ThreadArray n) = plainly _ _ _ (λ spots. refl) refl refl (λ spots. refl) (λ spots. refl)
global-law name kind.Mutex = plainly _ _ _ (λ spots. refl) refl refl (λ spots. refl) (λ spots. refl)
global-law name kind.Cond = plainly _ _ _ (λ spots. refl) refl refl (λ spots. refl) (λ spots. refl)

-- heads

abbrev pub more_params_items : List (List ℕ) → List Item
more_params_items [] = []
more_params_items (p ∷ more) = Is (IsSign s.Comma) ∷ Gap ∷ Is (IsWord w.Int) ∷ Gap ∷ Is (IsName p) ∷ more_params_items more

abbrev pub params_items : List (List ℕ) → List Item
params_items [] = Is (IsWord w.Void) ∷ []
params_items (p ∷ more) = Is (IsWord w.Int) ∷ Gap ∷ Is (IsName p) ∷ more_params_items more

abbrev pub param_at : List ℕ → List Spot → f.Param
param_at p spots = f.ParamOf (here spots) (Some (ident_at p (later spots)))

abbrev pub more_params_tree : List (List ℕ) → List Spot → List (Spot × f.Param)
more_params_tree [] spots = []
more_params_tree (p ∷ more) spots = (here spots, param_at p (later spots)) ∷ more_params_tree more (later (later (later spots)))

abbrev pub params_tree : List (List ℕ) → List Spot → f.Params
params_tree [] spots = f.VoidParams (here spots)
params_tree (p ∷ more) spots = f.SomeParams (param_at p spots) (more_params_tree more (later (later spots)))

abbrev pub more_params_marks : List (Spot × f.Param) → List Mark
more_params_marks = each (λ x. (sign s.Comma x.0, 0) ∷ f.param_marks x.1)

more-params-told : (ps : List (List ℕ)) (spots : List Spot) → tokens (more_params_marks (more_params_tree ps spots)) ≡ spotted spots (more_params_items ps)
more-params-told [] spots = refl
more-params-told (p ∷ more) spots =
    ap (λ z. sign s.Comma (here spots) ∷ word w.Int (here (later spots)) ∷ ident (ident_at p (later (later spots))) ∷ z) (more-params-told more (later (later (later spots))))

params-told : (ps : List (List ℕ)) (spots : List Spot) → tokens (f.params_marks (params_tree ps spots)) ≡ spotted spots (params_items ps)
params-told [] spots = refl
params-told (p ∷ more) spots = ap (λ z. word w.Int (here spots) ∷ ident (ident_at p (later spots)) ∷ z) (more-params-told more (later (later spots)))

abbrev pub plain_head_items : Word → List ℕ → List (List ℕ) → List Item
plain_head_items x name params = Is (IsWord x) ∷ Gap ∷ Is (IsName name) ∷ Is (IsSign s.OpenParen) ∷ (params_items params ++ Is (IsSign s.CloseParen) ∷ [])

abbrev pub head_items : FnKind → List ℕ → List (List ℕ) → List Item
head_items gives.Int name params = plain_head_items w.Int name params
head_items gives.Void name params = plain_head_items w.Void name params
head_items gives.Thread name params =
    Is (IsWord w.Void) ∷ Gap ∷ Is (IsSign s.Star) ∷ Is (IsName name) ∷ Is (IsSign s.OpenParen) ∷ Is (IsWord w.Void) ∷ Gap ∷ Is (IsSign s.Star)
    ∷ Is (IsName (name_at params 0)) ∷ Is (IsSign s.CloseParen) ∷ []

abbrev pub plain_head_tree : f.Return → List ℕ → List (List ℕ) → List Spot → f.Head
plain_head_tree x name params spots =
    let inner = later (later (later spots)) in
    f.PlainHead None x (here spots) (ident_at name (later spots)) (here (later (later spots))) (params_tree params inner) (here (after inner (params_items params)))

abbrev pub head_tree : FnKind → List ℕ → List (List ℕ) → List Spot → f.Head
head_tree gives.Int name params spots = plain_head_tree f.ReturnsInt name params spots
head_tree gives.Void name params spots = plain_head_tree f.ReturnsVoid name params spots
head_tree gives.Thread name params spots =
    let inner = later (later (later (later spots))) in
    f.ThreadHead None (here spots) (here (later spots)) (ident_at name (later (later spots))) (here (later (later (later spots)))) (here inner) (here (later inner))
    (Some (ident_at (name_at params 0) (later (later inner)))) (here (later (later (later inner))))

plain-head-told : (x : f.Return) (name : List ℕ) (params : List (List ℕ)) (spots : List Spot)
    → tokens (f.head_marks (plain_head_tree x name params spots)) ≡ spotted spots (plain_head_items (f.return_word x) name params)
plain-head-told x name params spots =
    let inner = later (later (later spots)) in
    ap (λ z. word (f.return_word x) (here spots) ∷ ident (ident_at name (later spots)) ∷ sign s.OpenParen (here (later (later spots))) ∷ z)
    (joint inner (params_items params) (Is (IsSign s.CloseParen) ∷ []) (f.params_marks (params_tree params inner)) ((sign s.CloseParen (here (after inner (params_items params))), 0) ∷ [])
    (params-told params inner) refl)

head-told : (k : FnKind) (name : List ℕ) (params : List (List ℕ)) (spots : List Spot) → tokens (f.head_marks (head_tree k name params spots)) ≡ spotted spots (head_items k name params)
head-told gives.Int name params spots = plain-head-told f.ReturnsInt name params spots
head-told gives.Void name params spots = plain-head-told f.ReturnsVoid name params spots
head-told gives.Thread name params spots = refl

more-params-fit : (ps : List (List ℕ)) (next : Option Item) → ends next ≡ true → fits (more_params_items ps ++ Is (IsSign s.CloseParen) ∷ []) next ≡ true
more-params-fit [] next h = closed-paren next h
more-params-fit (p ∷ []) next h = closed-paren next h
more-params-fit (p ∷ q ∷ more) next h = more-params-fit (q ∷ more) next h

params-fit : (ps : List (List ℕ)) (next : Option Item) → ends next ≡ true → fits (params_items ps ++ Is (IsSign s.CloseParen) ∷ []) next ≡ true
params-fit [] next h = closed-paren next h
params-fit (p ∷ []) next h = closed-paren next h
params-fit (p ∷ q ∷ more) next h = more-params-fit (q ∷ more) next h

plain-head-fits : (x : Word) (name : List ℕ) (params : List (List ℕ)) → Fits (plain_head_items x name params)
plain-head-fits x name [] next h = params-fit [] next h
plain-head-fits x name (p ∷ more) next h = params-fit (p ∷ more) next h

head-fits : (k : FnKind) (name : List ℕ) (params : List (List ℕ)) → Fits (head_items k name params)
head-fits gives.Int name params next h = plain-head-fits w.Int name params next h
head-fits gives.Void name params next h = plain-head-fits w.Void name params next h
head-fits gives.Thread name params next h = closed-paren next h

-- prototypes

abbrev pub prototype_line : Function → Line
prototype_line fn = head_items fn.kind fn.name fn.params ++ Is (IsSign s.Semicolon) ∷ []

abbrev pub prototype_tree : Function → List Spot → f.Top
prototype_tree fn spots = f.Prototype (head_tree fn.kind fn.name fn.params spots) (here (after spots (head_items fn.kind fn.name fn.params)))

prototype-law : (fn : Function) → Law (prototype_line fn ∷ []) (prototype_line fn) (prototype_tree fn)
prototype-law fn =
    let items = head_items fn.kind fn.name fn.params in
    plainly (prototype_line fn ∷ []) (prototype_line fn) (prototype_tree fn)
    (λ spots. joint spots items (Is (IsSign s.Semicolon) ∷ []) (f.head_marks (head_tree fn.kind fn.name fn.params spots)) ((sign s.Semicolon (here (after spots items)), 0) ∷ [])
    (head-told fn.kind fn.name fn.params spots) refl)
    (append-nil (kinds (prototype_line fn)))
    (both _ _ (fits-then items (Is (IsSign s.Semicolon) ∷ []) None (head-fits fn.kind fn.name fn.params) refl refl) refl) (λ spots. refl) (λ spots. refl)

-- functions

abbrev pub body_lines : Names → Function → List Line
body_lines names fn = ops_lines fn.start ++ stmts_lines names (plain_body fn.body)

abbrev pub function_lines : Names → Function → List Line
function_lines names fn = braced (head_items fn.kind fn.name fn.params ++ Gap ∷ []) (body_lines names fn)

abbrev pub body_items : Names → Function → List Item
body_items names fn = Gap ∷ Is (IsSign s.OpenBrace) ∷ (ops_items fn.start ++ (stmts_items names (plain_body fn.body) ++ Is (IsSign s.CloseBrace) ∷ []))

abbrev pub function_items : Names → Function → List Item
function_items names fn = head_items fn.kind fn.name fn.params ++ body_items names fn

abbrev pub function_tree : Names → Function → List Spot → f.Top
function_tree names fn spots =
    let before = after spots (head_items fn.kind fn.name fn.params) in
    let body = after (later before) (ops_items fn.start) in
    f.Function (head_tree fn.kind fn.name fn.params spots) (here before) (ops_tree fn.start (later before)) (stmts_tree names (plain_body fn.body) body)
    (here (after body (stmts_items names (plain_body fn.body))))

function-told : (names : Names) (fn : Function) (spots : List Spot) → tokens (f.top_marks (function_tree names fn spots)) ≡ spotted spots (function_items names fn)
function-told names fn spots =
    let before = after spots (head_items fn.kind fn.name fn.params) in
    let body = after (later before) (ops_items fn.start) in
    let end : List Mark = (sign s.CloseBrace (here (after body (stmts_items names (plain_body fn.body)))), 0) ∷ [] in
    let inner : List Mark = t.items_marks 0 (stmts_tree names (plain_body fn.body) body) ++ end in
    joint spots (head_items fn.kind fn.name fn.params) (body_items names fn) (f.head_marks (head_tree fn.kind fn.name fn.params spots))
    ((sign s.OpenBrace (here before), 0) ∷ (o.ops_marks 0 (ops_tree fn.start (later before)) ++ inner)) (head-told fn.kind fn.name fn.params spots)
    (ap (λ z. sign s.OpenBrace (here before) ∷ z)
    (joint (later before) (ops_items fn.start) (stmts_items names (plain_body fn.body) ++ Is (IsSign s.CloseBrace) ∷ []) (o.ops_marks 0 (ops_tree fn.start (later before))) inner
    (ops-told fn.start 0 (later before))
    (joint body (stmts_items names (plain_body fn.body)) (Is (IsSign s.CloseBrace) ∷ []) (t.items_marks 0 (stmts_tree names (plain_body fn.body) body)) end
    (stmts-told names (plain_body fn.body) 0 body) refl)))

function-law : (names : Names) (fn : Function) → Law (function_lines names fn) (function_items names fn) (function_tree names fn)
function-law names fn =
    let items = head_items fn.kind fn.name fn.params in
    let body = plain_body fn.body in
    let close = Is (IsSign s.CloseBrace) ∷ [] in
    plainly (function_lines names fn) (function_items names fn) (function_tree names fn) (function-told names fn)
    (hold-braced (items ++ Gap ∷ []) (body_lines names fn) (ops_items fn.start ++ stmts_items names body)
    (hold-append (ops_lines fn.start) (stmts_lines names body) (ops_items fn.start) (stmts_items names body) (hold-ops fn.start) (hold-stmts names body))
    ∙ ap kinds (append_assoc items (Gap ∷ []) (Is (IsSign s.OpenBrace) ∷ ((ops_items fn.start ++ stmts_items names body) ++ close)))
    ∙ ap (λ z. kinds (items ++ Gap ∷ Is (IsSign s.OpenBrace) ∷ z)) (append_assoc (ops_items fn.start) (stmts_items names body) close))
    (all_fit-braced (items ++ Gap ∷ []) (body_lines names fn)
    (ap (λ z. fits z None) (append_assoc items (Gap ∷ []) (Is (IsSign s.OpenBrace) ∷ []))
    ∙ fits-then items (Gap ∷ Is (IsSign s.OpenBrace) ∷ []) None (head-fits fn.kind fn.name fn.params) refl refl)
    (all_fit-append (ops_lines fn.start) (stmts_lines names body) (ops-fit fn.start) (stmts-fit names body)))
    (λ spots. stmts-derived names body (after (later (after spots items)) (ops_items fn.start))) (λ spots. refl)

-- the parts of a program

abbrev pub start_parts : List OrderId → List Part
start_parts [] = []
start_parts (order ∷ more) = One (start_line order.number ∷ []) (start_line order.number) (start_tree order.number) ∷ start_parts more

abbrev pub own_parts : Bool → List OrderId → List Part
own_parts true starts = start_parts starts ++ One (own_line ∷ []) own_line own_tree ∷ []
own_parts false starts = []

abbrev pub header_parts : Tree → List Part
header_parts tree =
    One (include_line (codes "pthread") ∷ []) (include_line (codes "pthread")) (include_tree (codes "pthread"))
    ∷ One (include_line (codes "stdio") ∷ []) (include_line (codes "stdio")) (include_tree (codes "stdio")) ∷ own_parts (tree_patched tree) tree.starts

abbrev pub global_parts : List Global → List Part
global_parts [] = []
global_parts (g ∷ more) = One (global_line g.name g.kind ∷ []) (global_line g.name g.kind) (global_tree g.name g.kind) ∷ global_parts more

abbrev pub prototype_by : Bool → Function → List Part
prototype_by true fn = []
prototype_by false fn = One (prototype_line fn ∷ []) (prototype_line fn) (prototype_tree fn) ∷ []

abbrev pub prototype_parts : List Function → List Part
prototype_parts [] = []
prototype_parts (fn ∷ more) = prototype_by (bytes_eq fn.name (codes "main")) fn ++ prototype_parts more

abbrev pub function_part : Tree → Function → Part
function_part tree fn = One (function_lines (names_in tree fn) fn) (function_items (names_in tree fn) fn) (function_tree (names_in tree fn) fn)

-- functions with an empty line between each two
abbrev pub function_parts : Tree → List Function → List Part
function_parts tree [] = []
function_parts tree (fn ∷ []) = function_part tree fn ∷ []
function_parts tree (fn ∷ next ∷ more) = function_part tree fn ∷ Empty ∷ function_parts tree (next ∷ more)

-- parts and an empty line, if there are any
abbrev pub spaced_parts : List Part → List Part
spaced_parts [] = []
spaced_parts (p ∷ more) = (p ∷ more) ++ Empty ∷ []

abbrev pub tree_parts : Tree → List Part
tree_parts tree =
    spaced_parts (header_parts tree) ++ (spaced_parts (global_parts tree.globals) ++ (spaced_parts (prototype_parts tree.functions) ++ function_parts tree tree.functions))

-- all of them keep the laws

abbrev pub AreQuiet : List OrderId → Type 0
AreQuiet [] = Unit {0}
AreQuiet (order ∷ more) = IsQuietNumber order.number × AreQuiet more

starts-lawful : (starts : List OrderId) → AreQuiet starts → AllLawful (start_parts starts)
starts-lawful [] q = tt
starts-lawful (order ∷ more) q = (start-law order.number q.0, starts-lawful more q.1)

own-lawful : (patched : Bool) (starts : List OrderId) → AreQuiet starts → AllLawful (own_parts patched starts)
own-lawful true starts q = lawful-append (start_parts starts) (One (own_line ∷ []) own_line own_tree ∷ []) (starts-lawful starts q) (own-law, tt)
own-lawful false starts q = tt

globals-lawful : (list : List Global) → AllLawful (global_parts list)
globals-lawful [] = tt
globals-lawful (g ∷ more) = (global-law g.name g.kind, globals-lawful more)

prototype-lawful : (main : Bool) (fn : Function) → AllLawful (prototype_by main fn)
prototype-lawful true fn = tt
prototype-lawful false fn = (prototype-law fn, tt)

prototypes-lawful : (list : List Function) → AllLawful (prototype_parts list)
prototypes-lawful [] = tt
prototypes-lawful (fn ∷ more) =
    lawful-append (prototype_by (bytes_eq fn.name (codes "main")) fn) (prototype_parts more) (prototype-lawful (bytes_eq fn.name (codes "main")) fn) (prototypes-lawful more)

functions-lawful : (tree : Tree) (list : List Function) → AllLawful (function_parts tree list)
functions-lawful tree [] = tt
functions-lawful tree (fn ∷ []) = (function-law (names_in tree fn) fn, tt)
functions-lawful tree (fn ∷ next ∷ more) = (function-law (names_in tree fn) fn, (tt, functions-lawful tree (next ∷ more)))

spaced-lawful : (ps : List Part) → AllLawful ps → AllLawful (spaced_parts ps)
spaced-lawful [] l = tt
spaced-lawful (p ∷ more) l = lawful-append (p ∷ more) (Empty ∷ []) l (tt, tt)

pub tree-lawful : (tree : Tree) → AreQuiet tree.starts → AllLawful (tree_parts tree)
tree-lawful tree q =
    lawful-append (spaced_parts (header_parts tree)) (spaced_parts (global_parts tree.globals) ++ (spaced_parts (prototype_parts tree.functions) ++ function_parts tree tree.functions))
    (spaced-lawful (header_parts tree) (include-law (codes "pthread") refl, (include-law (codes "stdio") refl, own-lawful (tree_patched tree) tree.starts q)))
    (lawful-append (spaced_parts (global_parts tree.globals)) (spaced_parts (prototype_parts tree.functions) ++ function_parts tree tree.functions)
    (spaced-lawful (global_parts tree.globals) (globals-lawful tree.globals))
    (lawful-append (spaced_parts (prototype_parts tree.functions)) (function_parts tree tree.functions)
    (spaced-lawful (prototype_parts tree.functions) (prototypes-lawful tree.functions)) (functions-lawful tree tree.functions)))
