-- Functions without faults spell valid ones.
use Rattle.std.proofs.Common.{◌≡◌, ℕ, Bool, true, false, not, ◌&&◌, ◌||◌, List, [], ◌∷◌, map, length, Option, Some, None, refl, sym, ◌∙◌, true≢false}
use Rattle.std.proofs.lemmas.Bool.{and_parts, and_from, or_left, or_right, not-true, not_from_false, false_from_ne_true}
use Rattle.std.proofs.lemmas.Slice.Eq.{bytes_eq-Decides}
use Rattle.std.specs.List.{list_all, list_any}
use Rattle.std.specs.Str.{bytes_eq}
use Rattle.cfix_base.specs.Words.{is_name_text}
use Rattle.cfix_base.specs.declared.Spot.{Spot}
use Rattle.c_grammar.specs.Marks.{each, maybe}
use Rattle.c_grammar.specs.Token.{Ident}
use Rattle.c_grammar.specs.Op.{Ops, ops_marks}
use Rattle.c_grammar.specs.Stmt.{Items, items_marks}
use Rattle.c_grammar.specs.File as f
use Rattle.c_grammar.specs.File.{static_marks, name_marks, param_marks, params_marks, head_marks, top_marks, file_marks}
use Rattle.c_prog.specs.declared.function.FnKind.{FnKind}
use Rattle.c_prog.specs.declared.function.FnKind.TheVariants as kind
use Rattle.c_prog.specs.Valid.Scope.{VarKind, Scope, is_in_block, nothing_declared, declared}
use Rattle.c_prog.specs.Valid.Kinds.{File, file_of}
use Rattle.c_prog.specs.Valid.Expressions.{is_int_kind, is_main_name}
use Rattle.c_prog.specs.Valid.Acts.{is_declared_name}
use Rattle.c_prog.specs.Valid.Falls.{falls_through}
use Rattle.c_prog.specs.Valid.Functions.{are_distinct, param_kind, is_valid_count, is_valid_function}
use Rattle.c_names.specs.declared.fault.FaultKind.TheVariants.{NoReturn}
use Rattle.c_names.specs.Uses.{Names}
use Rattle.c_names.specs.Names.{reserved_faults}
use Rattle.c_names.specs.Scopes.{listed}
use Rattle.c_names.specs.Simples.{ops_faults}
use Rattle.c_names.specs.Statements.{items_faults}
use Rattle.c_names.specs.Declarations.{Parameter, param_of, params_of, head_name, head_kind, head_params, head_form, declarations, names_of}
use Rattle.c_names.specs.Files.{all_twice_faults, main_form_faults, param_text, param_name_faults, params_faults, body_scope, body_around, body_of, end_faults, function_faults, top_faults, faults_of}
use Rattle.c_names.specs.Sources.{function_of, top_functions_of, source_of}
use Rattle.valid_law.specs.Agrees.{Agrees}
use Rattle.valid_law.specs.Lexical.{are_lexical}
use Rattle.valid_law.proofs.Faultless.{none-left, none-right, no_fault}
use Rattle.valid_law.proofs.Lexical.{lexical-all, lexical-left, lexical-right}
use Rattle.valid_law.proofs.Scopes.{fits-nothing, fits-params}
use Rattle.valid_law.proofs.FileNames.{lexical-listed}
use Rattle.valid_law.proofs.Declarations.{new-name}
use Rattle.valid_law.proofs.Statements.{items-runs}
use Rattle.valid_law.proofs.Uses.{is_global_kind}

-- ---- parameters

-- the names of parameters
abbrev are_params_lexical : List Parameter → Bool
are_params_lexical params = list_all (λ p. are_lexical (name_marks p.1)) params

one-param : (p : f.Param) → are_lexical (param_marks p) ≡ true → are_lexical (name_marks (param_of p).1) ≡ true
one-param (f.ParamOf at name) h = h

all-params : (ps : List f.Param) → list_all (λ p. are_lexical (param_marks p)) ps ≡ true → are_params_lexical (map param_of ps) ≡ true
all-params [] h = refl
all-params (p ∷ ps) h =
    let hs = and_parts (are_lexical (param_marks p)) (list_all (λ p. are_lexical (param_marks p)) ps) h in
    and_from _ _ (one-param p hs.0) (all-params ps hs.1)

list-lexical : (list : f.Params) → are_lexical (params_marks list) ≡ true → are_params_lexical (params_of list) ≡ true
list-lexical f.NoParams h = refl
list-lexical (f.VoidParams at) h = refl
list-lexical (f.SomeParams p more) h = all-params (listed p more) (lexical-listed 0 param_marks p more h)

params-lexical : (head : f.Head) → are_lexical (head_marks head) ≡ true → are_params_lexical (head_params head) ≡ true
params-lexical (f.PlainHead static return at name before list after) h =
    let behind = (and_parts (is_name_text name.text) _ (lexical-right (static_marks static) _ h)).1 in
    list-lexical list (lexical-left (params_marks list) _ behind)
params-lexical (f.ThreadHead static at star name before void star2 param after) h =
    let behind = (and_parts (is_name_text name.text) _ (lexical-right (static_marks static) _ h)).1 in
    and_from _ _ (lexical-left (name_marks param) _ behind) refl

abbrev ident_text : Option Ident → List ℕ
ident_text name = maybe [] (λ x. x.text) name

param-new : (names : Names) (scope : Scope) (at : Spot) (name : Option Ident) → are_lexical (name_marks name) ≡ true → param_name_faults names scope at name ≡ []
    → (is_declared_name (ident_text name) ≡ true) × (is_in_block (ident_text name) scope ≡ false)
param-new names scope at None s e = absurd cc
param-new names scope at (Some x) s e =
    let parts = and_parts (is_declared_name x.text) (not (is_in_block x.text scope)) (new-name names scope x (and_parts (is_name_text x.text) true s).0 e) in
    (parts.0, not-true _ parts.1)

-- a name stands in the block
abbrev Holds : List ℕ → Scope → Type 0
Holds name scope = (other : List ℕ) → bytes_eq name other ≡ true → is_in_block other scope ≡ true

holds-own : (name : List ℕ) (kind : VarKind) (scope : Scope) → Holds name (declared name kind scope)
holds-own name kind scope other h = or_left (bytes_eq other name) (is_in_block other scope) ((bytes_eq-Decides other name).1 (sym ((bytes_eq-Decides name other).0 h)))

holds-more : (name next : List ℕ) (kind : VarKind) (scope : Scope) → Holds name scope → Holds name (declared next kind scope)
holds-more name next kind scope k other h = or_right (bytes_eq other next) (is_in_block other scope) (k other h)

differs : (names : Names) (kind : VarKind) (name : List ℕ) (scope : Scope) (params : List Parameter) → are_params_lexical params ≡ true → Holds name scope
    → params_faults names kind scope params ≡ [] → list_any (bytes_eq name) (map param_text params) ≡ false
differs names kind name scope [] s k e = refl
differs names kind name scope (p ∷ more) s k e =
    let parts = and_parts (are_lexical (name_marks p.1)) (are_params_lexical more) s in
    let new = param-new names scope p.0 p.1 parts.0 (none-left (param_name_faults names scope p.0 p.1) _ e) in
    let other = false_from_ne_true (bytes_eq name (param_text p)) (λ h. true≢false (sym (k (param_text p) h) ∙ new.1)) in
    let rest = differs names kind name (declared (param_text p) kind scope) more parts.1 (holds-more name (param_text p) kind scope k) (none-right (param_name_faults names scope p.0 p.1) _ e) in
    rw (other, rest) refl

params-valid : (names : Names) (kind : VarKind) (scope : Scope) (params : List Parameter) → are_params_lexical params ≡ true → params_faults names kind scope params ≡ []
    → (list_all is_declared_name (map param_text params) ≡ true) × (are_distinct (map param_text params) ≡ true)
params-valid names kind scope [] s e = (refl, refl)
params-valid names kind scope (p ∷ more) s e =
    let parts = and_parts (are_lexical (name_marks p.1)) (are_params_lexical more) s in
    let inner = declared (param_text p) kind scope in
    let behind = none-right (param_name_faults names scope p.0 p.1) _ e in
    let new = param-new names scope p.0 p.1 parts.0 (none-left (param_name_faults names scope p.0 p.1) _ e) in
    let rest = params-valid names kind inner more parts.1 behind in
    let apart = differs names kind (param_text p) inner more parts.1 (holds-own (param_text p) kind scope) behind in
    (and_from _ _ new.0 rest.0, and_from _ _ (not_from_false _ apart) rest.1)

-- ---- functions

param-kind : (k : FnKind) → is_global_kind (param_kind k) ≡ false
param-kind kind.Int = refl
param-kind kind.Void = refl
param-kind kind.Thread = refl

count-valid : (head : f.Head) → is_valid_count (head_kind head) (length (map param_text (head_params head))) ≡ true
count-valid (f.PlainHead static f.ReturnsInt at name before list after) = refl
count-valid (f.PlainHead static f.ReturnsVoid at name before list after) = refl
count-valid (f.ThreadHead static at star name before void star2 param after) = refl

end-by : (int main falls : Bool) → (int && (not main && falls)) ≡ false → (not int || main || not falls) ≡ true
end-by true true falls h = refl
end-by true false true h = absurd (true≢false h)
end-by true false false h = refl
end-by false true falls h = refl
end-by false false falls h = refl

module _ (names : Names) (file : File) (agrees : Agrees names file) where
  -- a function
  pub function-valid : (head : f.Head) (before : Spot) (ops : Ops) (items : Items) (after : Spot) → are_lexical (top_marks (f.Function head before ops items after)) ≡ true
      → function_faults names head ops items ≡ [] → is_valid_function file (function_of names head ops items) ≡ true
  function-valid head before ops items after s e =
      let kind = param_kind (head_kind head) in
      let body = body_of names head items in
      let inside = lexical-left (items_marks 0 items) _ (lexical-right (ops_marks 0 ops) _ (lexical-right (head_marks head) _ s)) in
      let named = none-right (main_form_faults (head_name head) (head_form head)) _ (none-right (reserved_faults (head_name head)) _ e) in
      let last = none-right (ops_faults ops) _ (none-right (params_faults names kind nothing_declared (head_params head)) _ named) in
      let own = items_faults names (body_around head) (body_scope head) items in
      let params = params-valid names kind nothing_declared (head_params head) (params-lexical head (lexical-left (head_marks head) _ s))
      (none-left (params_faults names kind nothing_declared (head_params head)) _ named) in
      let fits = fits-params kind (map param_text (head_params head)) nothing_declared (param-kind (head_kind head)) fits-nothing in
      let runs = items-runs names file agrees 0 (body_around head) (body_scope head) items fits inside (none-left own _ last) in
      let falls = no_fault (is_int_kind (head_kind head) && (not (is_main_name (head_name head).text) && falls_through body)) (head_name head).spot NoReturn
      (none-left (end_faults head body) _ (none-right own _ last)) in
      let ends = end-by (is_int_kind (head_kind head)) (is_main_name (head_name head).text) (falls_through body) falls in
      and_from _ _ (and_from _ _ (and_from _ _ (and_from _ _ params.0 params.1) (count-valid head)) runs.valid) ends

  top-valid : (top : f.Top) → are_lexical (top_marks top) ≡ true → top_faults names top ≡ [] → list_all (is_valid_function file) (top_functions_of names top) ≡ true
  top-valid (f.Include at name header) s e = refl
  top-valid (f.Define at name x value) s e = refl
  top-valid (f.Variables qualifiers globals end) s e = refl
  top-valid (f.Prototype head end) s e = refl
  top-valid (f.Function head before ops items after) s e = and_from _ _ (function-valid head before ops items after s e) refl

  pub tops-valid : (tops : f.File) → are_lexical (file_marks tops) ≡ true → each (top_faults names) tops ≡ []
      → list_all (is_valid_function file) (each (top_functions_of names) tops) ≡ true
  tops-valid = lexical-all top_marks (top_faults names) (top_functions_of names) (is_valid_function file) top-valid

-- the functions of a file without faults
pub functions-valid : (end : Spot) (file : f.File) → Agrees (names_of file) (file_of (source_of file).tree) → are_lexical (file_marks file) ≡ true → faults_of end file ≡ []
    → list_all (is_valid_function (file_of (source_of file).tree)) (source_of file).tree.functions ≡ true
functions-valid end file agrees s e =
    tops-valid (names_of file) (file_of (source_of file).tree) agrees file s
    (none-left (each (top_faults (names_of file)) file) _ (none-right (all_twice_faults [] (declarations file)) _ e))
