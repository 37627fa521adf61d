-- Statements that keep the rules are spelled again by their trees.
use Rattle.std.proofs.Common.{◌≡◌, ℕ, ◌+◌, Bool, true, false, not, ◌&&◌, ◌||◌, List, [], ◌∷◌, ◌++◌, Option, Some, None, append_assoc, refl, ap, sym, ◌∙◌, true≢false, if◌then◌else◌}
use Rattle.std.proofs.lemmas.Bool.{and_parts}
use Rattle.cfix_base.specs.declared.op.Op.{Op}
use Rattle.cfix_base.specs.declared.spot.Spot.{Spot}
use Rattle.c_prog.specs.declared.act.Act.{Act}
use Rattle.c_prog.specs.declared.act.Act.TheVariants as act
use Rattle.c_prog.specs.declared.act.Value.{Value}
use Rattle.c_prog.specs.declared.function.FnKind.{FnKind}
use Rattle.c_prog.specs.declared.function.FnKind.TheVariants as fn_kind
use Rattle.c_prog.specs.declared.stmt.Cond.{Cond}
use Rattle.c_prog.specs.declared.stmt.Jump.{Jump}
use Rattle.c_prog.specs.declared.stmt.Jump.TheVariants.{Break, Continue, Return, ReturnNull, ReturnValue}
use Rattle.c_prog.specs.declared.stmt.Step.{Step}
use Rattle.c_prog.specs.declared.stmt.Stmt.TheVariants as stmt
use Rattle.c_prog.specs.Valid.Scope.{Scope, visible, local_named, entered, passed}
use Rattle.c_prog.specs.Valid.Kinds.{File}
use Rattle.c_prog.specs.Valid.Expressions as valid
use Rattle.c_prog.specs.Valid.Expressions.{is_valid_expr, is_int_kind, is_thread_kind, is_valid_value}
use Rattle.c_prog.specs.Valid.Acts.{is_valid_act, is_step}
use Rattle.c_prog.specs.Valid.Operations.{are_valid_ops, has_valid_cond, has_valid_step, has_valid_ops, have_valid_ops}
use Rattle.c_prog.specs.Valid.Statements.{Around, looped, counts, after, all_valid, is_valid_step, is_valid_jump, part_of, parts_of}
use Rattle.c_prog.proofs.ValidEquations.{ops-Simple, ops-Jump, ops-If, ops-Loop, ops-Block}
use Rattle.c_grammar.specs.declared.sign.Sign.TheVariants as s
use Rattle.c_grammar.specs.declared.word.Word.TheVariants as w
use Rattle.c_grammar.specs.Token.{IsSign, IsWord}
use Rattle.c_grammar.specs.Op as o
use Rattle.c_grammar.specs.Stmt as t
use Rattle.c_print.specs.Text.Names.{Names, act_names}
use Rattle.c_names.specs.declared.fault.FaultKind.TheVariants.{WrongUse}
use Rattle.c_names.specs.Uses as n
use Rattle.c_names.specs.Returns.{is_null, bare_faults, returned_faults, jump_faults}
use Rattle.c_names.specs.Simples.{op_faults, ops_faults, more_ops_faults, plain_faults}
use Rattle.c_names.specs.Expressions.{value_faults}
use Rattle.c_names.specs.Scopes.{items_locals, item_after}
use Rattle.c_names.specs.Statements.{cond_faults, else_faults, items_faults, item_faults}
use Rattle.c_names.specs.SpelledExpressions.{value_of}
use Rattle.c_names.specs.SpelledStatements.{ops_of, more_ops_of, with_ops, cond_of, step_of, bare_of, return_of, jump_of, else_of, items_of, item_of}
use Rattle.print_law.proofs.Plain.{Stmt, Simple, Jumps, If, Loop, Block, Stmts, NoStmts, And, up_stmt, up_stmts}
use Rattle.print_law.proofs.Items.{Item, Gap, Is, here, later}
use Rattle.print_law.proofs.Items as items
use Rattle.print_law.proofs.Calls.{value_items, value_tree}
use Rattle.print_law.proofs.Operations.{op_items, op_tree, ops_items, ops_tree, cond_items, cond_tree}
use Rattle.print_law.proofs.Acts.{plain_items, plain_tree}
use Rattle.print_law.proofs.Simples.{Made, Declared, Simply, made_item, act_items, act_made}
use Rattle.print_law.proofs.Statements.{bare_items, bare_tree, alone_items, alone_tree, bare_end, value_end, block_items, block_tree, bare_block, jump_items, jump_tree, more_ops_items, more_ops_tree, step_items, step_tree, is_lone, in_braces, else_by, stmt_items, stmts_items, else_items, behind_cond, else_tree_by, stmt_tree, stmts_tree, else_tree}
use Rattle.print_law.proofs.Lexing.{items_ok}
use Rattle.print_law.proofs.Meanings.{FileFacts, AllKnown, limits, limits-append, no-fault}
use Rattle.print_law.proofs.SpeltExpressions.{ok-append, spelt-value}
use Rattle.print_law.proofs.SpeltActs.{ops-ok, ops-again, ops-clean, more-ops-ok, more-ops-again, more-ops-clean, made_acts, made_faults, spelt-cond, spelt-step, spelt-act, Next}
use Rattle.print_law.proofs.Places.{own_names, all_names, items-count, parts-count, item-after, after-count, Place, place-left, place-right, place-first, valid-simple, valid-jump, valid-if, valid-loop, valid-block, known-after}

-- a simple statement with its end and its operations

made-again : (known : n.Names) (around : Around) (scope : Scope) (m : Made) (a : Act) (end : Spot) (ops : o.Ops) → made_acts known scope m ≡ a ∷ []
    → item_of known around scope (made_item m end ops) ≡ stmt.Simple a (ops_of ops) ∷ []
made-again known around scope (Declared d) a end ops h = ap (λ z. with_ops z (ops_of ops)) h
made-again known around scope (Simply x) a end ops h = ap (λ z. with_ops z (ops_of ops)) h

made-clean : (known : n.Names) (around : Around) (scope : Scope) (m : Made) (end : Spot) (ops : o.Ops)
    → item_faults known around scope (made_item m end ops) ≡ made_faults known scope m ++ ops_faults ops
made-clean known around scope (Declared d) end ops = refl
made-clean known around scope (Simply x) end ops = refl

-- returned values

int-thread : (k : FnKind) → is_int_kind k ≡ true → is_thread_kind k ≡ false
int-thread fn_kind.Int h = refl
int-thread fn_kind.Void h = refl
int-thread fn_kind.Thread h = absurd (true≢false (sym h))

and-false : (a b : Bool) → a ≡ false → (a && b) ≡ false
and-false a b h = ap (λ z. z && b) h

or-true : (a b : Bool) → a ≡ true → not (a || b) ≡ false
or-true a b h = ap (λ z. not (z || b)) h

module _ (names : Names) (known : n.Names) (file : File) (facts : FileFacts names known file) where
  own : (scope : Scope) (text : List ℕ) → local_named text scope ≡ local_named text scope
  own scope text = refl

  -- jumps

  record SpeltJump (around : Around) (scope : Scope) (j : Jump) (ops : List Op) : Type 0 where
    ok : items_ok (jump_items names j ops) ≡ true
    again : (spots : List Spot) → jump_of known around scope (jump_tree names j ops spots) ≡ stmt.Jump j ops
    clean : (spots : List Spot) → limits (jump_faults known around scope (jump_tree names j ops spots)) ≡ true

  -- a jump without a value
  abbrev is_bare : Jump → Bool
  is_bare (ReturnValue v) = false
  is_bare _ = true

  bare-again : (j : Jump) (spots : List Spot) → is_bare j ≡ true → bare_of (bare_tree j spots) ≡ j
  bare-again Break spots h = refl
  bare-again Continue spots h = refl
  bare-again Return spots h = refl
  bare-again ReturnNull spots h = refl
  bare-again (ReturnValue v) spots h = absurd (true≢false (sym h))

  bare-clean : (around : Around) (scope : Scope) (j : Jump) (spots : List Spot) → is_bare j ≡ true → is_valid_jump file around scope j ≡ true → limits (bare_faults around (bare_tree j spots)) ≡ true
  bare-clean around scope Break spots h v = no-fault (not around.in_loop) (here spots) WrongUse (ap not v)
  bare-clean around scope Continue spots h v = no-fault (not around.in_loop) (here spots) WrongUse (ap not v)
  bare-clean around scope Return spots h v = no-fault (not (valid.is_void_kind around.kind)) (here spots) WrongUse (ap not v)
  bare-clean around scope ReturnNull spots h v = no-fault (not (is_thread_kind around.kind)) (here spots) WrongUse (ap not v)
  bare-clean around scope (ReturnValue w) spots h v = absurd (true≢false (sym h))

  bare-ok : (j : Jump) (rest : List Item) → items_ok rest ≡ true → items_ok (bare_items j ++ rest) ≡ true
  bare-ok Break rest h = h
  bare-ok Continue rest h = h
  bare-ok Return rest h = h
  bare-ok ReturnNull rest h = h
  bare-ok (ReturnValue v) rest h = h

  return-again : (around : Around) (scope : Scope) (v : Value) (spots : List Spot) → is_int_kind around.kind ≡ true → value_of known scope (value_tree names v spots) ≡ v
      → return_of known around scope (value_tree names v spots) ≡ ReturnValue v
  return-again around scope v spots k h =
      let null : is_null known around scope (value_tree names v spots) ≡ false = and-false (is_thread_kind around.kind) _ (int-thread around.kind k) in
      ap (λ z. if z then ReturnNull else ReturnValue (value_of known scope (value_tree names v spots))) null ∙ ap ReturnValue h

  return-clean : (around : Around) (scope : Scope) (v : Value) (at : Spot) (spots : List Spot) → is_int_kind around.kind ≡ true
      → limits (returned_faults known around scope at (value_tree names v spots)) ≡ true
  return-clean around scope v at spots k =
      no-fault (not (is_int_kind around.kind || is_null known around scope (value_tree names v spots))) at WrongUse (or-true (is_int_kind around.kind) _ k)

  spelt-bare : (around : Around) (scope : Scope) (j : Jump) → is_bare j ≡ true → is_valid_jump file around scope j ≡ true
      → (alone_items names j ≡ bare_items j ++ Is (IsSign s.Semicolon) ∷ [])
      → ((spots : List Spot) → alone_tree names j spots ≡ t.BareJump (bare_tree j spots) (here (items.after spots (bare_items j))))
      → SpeltJump around scope j []
  spelt-bare around scope j b v e f = record {
    ok = ap items_ok e ∙ bare-ok j (Is (IsSign s.Semicolon) ∷ []) refl;
    again = λ spots. ap (jump_of known around scope) (f spots) ∙ ap (λ z. stmt.Jump z []) (bare-again j spots b);
    clean = λ spots. ap (λ z. limits (jump_faults known around scope z)) (f spots) ∙ bare-clean around scope j spots b v;
  }

  abbrev bare_last : List Spot → Op → List Op → List Spot
  bare_last spots op more = items.after (later (items.after (later spots) (op_items op))) (ops_items more)

  spelt-bare-block : (around : Around) (scope : Scope) (j : Jump) (op : Op) (more : List Op) → is_bare j ≡ true → is_valid_jump file around scope j ≡ true → are_valid_ops (op ∷ more) ≡ true
      → (block_items names j op more ≡ Is (IsSign s.OpenBrace) ∷ (op_items op ++ bare_end j more)) → ((spots : List Spot) → block_tree names j op more spots ≡ bare_block j op more spots)
      → SpeltJump around scope j (op ∷ more)
  spelt-bare-block around scope j op more b v w e f = record {
    ok = ap items_ok e
        ∙ ok-append (ops_items (op ∷ more)) (bare_items j ++ Is (IsSign s.Semicolon) ∷ Is (IsSign s.CloseBrace) ∷ []) (ops-ok (op ∷ more) w)
        (bare-ok j (Is (IsSign s.Semicolon) ∷ Is (IsSign s.CloseBrace) ∷ []) refl);
    again = λ spots.
        ap (jump_of known around scope) (f spots)
        ∙ ap (λ z. stmt.Jump z (ops_of (ops_tree (op ∷ more) (later spots)))) (bare-again j (bare_last spots op more) b) ∙ ap (λ z. stmt.Jump j z) (ops-again (op ∷ more) (later spots));
    clean = λ spots.
        let one = op_faults (op_tree op (later spots)) in
        let rest = ops_faults (ops_tree more (later (items.after (later spots) (op_items op)))) in
        let end = bare_faults around (bare_tree j (bare_last spots op more)) in
        ap (λ z. limits (jump_faults known around scope z)) (f spots) ∙ ap limits (sym (append_assoc one rest end))
        ∙ limits-append (one ++ rest) end (ops-clean (op ∷ more) (later spots)) (bare-clean around scope j (bare_last spots op more) b v);
  }

  spelt-return : (around : Around) (scope : Scope) (w : Value) → AllKnown names (visible scope) → is_valid_jump file around scope (ReturnValue w) ≡ true → SpeltJump around scope (ReturnValue w) []
  spelt-return around scope w locals v =
      let vs = and_parts (is_int_kind around.kind) (is_valid_value file scope w) v in
      let sv = spelt-value names known file facts scope locals scope (own scope) w vs.1 in
      record {
        ok = ok-append (value_items names w) (Is (IsSign s.Semicolon) ∷ []) sv.ok refl;
        again = λ spots. ap (λ z. stmt.Jump z []) (return-again around scope w (later spots) vs.0 (sv.again (later spots)));
        clean = λ spots.
            limits-append (returned_faults known around scope (here spots) (value_tree names w (later spots))) (value_faults known scope (value_tree names w (later spots)))
            (return-clean around scope w (here spots) (later spots) vs.0) (sv.clean (later spots));
      }

  spelt-return-block : (around : Around) (scope : Scope) (x : Value) (op : Op) (more : List Op) → AllKnown names (visible scope) → is_valid_jump file around scope (ReturnValue x) ≡ true
      → are_valid_ops (op ∷ more) ≡ true → SpeltJump around scope (ReturnValue x) (op ∷ more)
  spelt-return-block around scope x op more locals v h =
      let vs = and_parts (is_int_kind around.kind) (is_valid_value file scope x) v in
      let sv = spelt-value names known file facts scope locals scope (own scope) x vs.1 in
      let tail = Is (IsWord w.Return) ∷ Gap ∷ Is (IsWord w.Value) ∷ Is (IsSign s.Semicolon) ∷ Is (IsSign s.CloseBrace) ∷ [] in
      record {
        ok = ok-append (value_items names x) (Is (IsSign s.Semicolon) ∷ (op_items op ++ value_end more)) sv.ok (ok-append (ops_items (op ∷ more)) tail (ops-ok (op ∷ more) h) refl);
        again = λ spots.
            let start = later (later (later (later spots))) in
            let behind = later (items.after start (value_items names x)) in
            ap (λ z. stmt.Jump z (ops_of (ops_tree (op ∷ more) behind))) (return-again around scope x start vs.0 (sv.again start)) ∙ ap (λ z. stmt.Jump (ReturnValue x) z) (ops-again (op ∷ more) behind);
        clean = λ spots.
            let start = later (later (later (later spots))) in
            let behind = later (items.after start (value_items names x)) in
            let next = later (items.after behind (op_items op)) in
            let last = here (items.after next (ops_items more)) in
            let one = op_faults (op_tree op behind) in
            let rest = ops_faults (ops_tree more next) in
            let end = returned_faults known around scope last (value_tree names x start) in
            limits-append (value_faults known scope (value_tree names x start)) (one ++ (rest ++ end)) (sv.clean start)
            (ap limits (sym (append_assoc one rest end)) ∙ limits-append (one ++ rest) end (ops-clean (op ∷ more) behind) (return-clean around scope x last start vs.0));
      }

  spelt-jump : (around : Around) (scope : Scope) (j : Jump) (ops : List Op) → AllKnown names (visible scope) → is_valid_jump file around scope j ≡ true → are_valid_ops ops ≡ true → SpeltJump around scope j ops
  spelt-jump around scope Break [] locals v h = spelt-bare around scope Break refl v refl (λ spots. refl)
  spelt-jump around scope Continue [] locals v h = spelt-bare around scope Continue refl v refl (λ spots. refl)
  spelt-jump around scope Return [] locals v h = spelt-bare around scope Return refl v refl (λ spots. refl)
  spelt-jump around scope ReturnNull [] locals v h = spelt-bare around scope ReturnNull refl v refl (λ spots. refl)
  spelt-jump around scope (ReturnValue w) [] locals v h = spelt-return around scope w locals v
  spelt-jump around scope Break (op ∷ more) locals v h = spelt-bare-block around scope Break op more refl v h refl (λ spots. refl)
  spelt-jump around scope Continue (op ∷ more) locals v h = spelt-bare-block around scope Continue op more refl v h refl (λ spots. refl)
  spelt-jump around scope Return (op ∷ more) locals v h = spelt-bare-block around scope Return op more refl v h refl (λ spots. refl)
  spelt-jump around scope ReturnNull (op ∷ more) locals v h = spelt-bare-block around scope ReturnNull op more refl v h refl (λ spots. refl)
  spelt-jump around scope (ReturnValue w) (op ∷ more) locals v h = spelt-return-block around scope w op more locals v h

  -- statements

  pub record SpeltStmt (around : Around) (scope : Scope) (st : Stmt) : Type 0 where
    pub ok : items_ok (stmt_items names st) ≡ true
    pub again : (spots : List Spot) → item_of known around scope (stmt_tree names st spots) ≡ up_stmt st ∷ []
    pub clean : (spots : List Spot) → limits (item_faults known around scope (stmt_tree names st spots)) ≡ true

  pub record SpeltStmts (around : Around) (scope : Scope) (body : Stmts) : Type 0 where
    pub ok : items_ok (stmts_items names body) ≡ true
    pub again : (spots : List Spot) → items_of known around scope (stmts_tree names body spots) ≡ up_stmts body
    pub clean : (spots : List Spot) → limits (items_faults known around scope (stmts_tree names body spots)) ≡ true

  record SpeltElse (around : Around) (scope : Scope) (body : Stmts) : Type 0 where
    ok : items_ok (else_items names body) ≡ true
    again : (spots : List Spot) → else_of known around scope (else_tree names body spots) ≡ up_stmts body
    clean : (spots : List Spot) → limits (else_faults known around scope (else_tree names body spots)) ≡ true

  act-next : (scope : Scope) (locals : AllKnown names (visible scope)) (a : Act) → Place names scope.count (act_names a) → Next names known file facts scope locals a
  act-next scope locals (act.Declare name k initial) p = place-first names scope.count name p
  act-next scope locals (act.Assign target h v) p = tt
  act-next scope locals (act.Up target) p = tt
  act-next scope locals (act.Down target) p = tt
  act-next scope locals (act.Call c) p = tt
  act-next scope locals (act.Create target f e) p = tt
  act-next scope locals (act.Join target) p = tt
  act-next scope locals (act.Lock x) p = tt
  act-next scope locals (act.Unlock x) p = tt
  act-next scope locals (act.Print text args) p = tt
  act-next scope locals (act.Scan target) p = tt
  act-next scope locals (act.Wait c x) p = tt
  act-next scope locals (act.Signal c) p = tt
  act-next scope locals (act.Broadcast c) p = tt

  spelt-simple : (around : Around) (scope : Scope) (a : Act) (ops : List Op) → is_valid_act file scope a ≡ true → are_valid_ops ops ≡ true → AllKnown names (visible scope)
      → Place names scope.count (act_names a) → SpeltStmt around scope (Simple a ops)
  spelt-simple around scope a ops v w locals place =
      let sa = spelt-act names known file facts scope locals a v (act-next scope locals a place) in
      record {
        ok = ok-append (act_items names a) (Is (IsSign s.Semicolon) ∷ ops_items ops) sa.ok (ops-ok ops w);
        again = λ spots.
            let behind = items.after spots (act_items names a) in
            made-again known around scope (act_made names a spots) a (here behind) (ops_tree ops (later behind)) (sa.again spots)
            ∙ ap (λ z. stmt.Simple a z ∷ []) (ops-again ops (later behind));
        clean = λ spots.
            let behind = items.after spots (act_items names a) in
            ap limits (made-clean known around scope (act_made names a spots) (here behind) (ops_tree ops (later behind)))
            ∙ limits-append (made_faults known scope (act_made names a spots)) (ops_faults (ops_tree ops (later behind))) (sa.clean spots) (ops-clean ops (later behind));
      }

  module _ (around : Around) (scope : Scope) (locals : AllKnown names (visible scope)) where
    -- a condition and a step that stand here or in a block of their own
    abbrev CondHere : Scope → Cond → Type 0
    CondHere inner cond =
        (items_ok (cond_items names cond) ≡ true) × ((spots : List Spot) → cond_of known inner (cond_tree names cond spots) ≡ cond)
        × ((spots : List Spot) → limits (cond_faults known inner (cond_tree names cond spots)) ≡ true)

    cond-here : (inner : Scope) → ((text : List ℕ) → local_named text inner ≡ local_named text scope) → (cond : Cond) → is_valid_expr file scope cond.test ≡ true → has_valid_cond cond ≡ true → CondHere inner cond
    cond-here inner same cond v h = let c = spelt-cond names known file facts scope locals inner same cond v h in (c.ok, c.again, c.clean)

    spelt-if : (cond : Cond) (x y : Stmts) → CondHere scope cond → SpeltStmts around (entered scope) x → SpeltElse around (passed (counts (parts_of file (up_stmts x))) scope) y
        → SpeltStmt around scope (If cond x y)
    spelt-if cond x y c b e = record {
      ok = ok-append (cond_items names cond) (Is (IsSign s.CloseParen) ∷ Gap ∷ Is (IsSign s.OpenBrace) ∷ (stmts_items names x ++ Is (IsSign s.CloseBrace) ∷ else_items names y)) c.0
          (ok-append (stmts_items names x) (Is (IsSign s.CloseBrace) ∷ else_items names y) b.ok e.ok);
      again = λ spots.
          let inner = later (later (behind_cond names cond spots)) in
          let last = later (items.after inner (stmts_items names x)) in
          let count : items_locals (stmts_tree names x inner) ≡ counts (parts_of file (up_stmts x)) = items-count names x inner ∙ sym (parts-count file x) in
          ap (λ z. stmt.If z (items_of known around (entered scope) (stmts_tree names x inner)) (else_of known around (passed (items_locals (stmts_tree names x inner)) scope) (else_tree names y last)) ∷ [])
          (c.1 (later (later spots)))
          ∙ ap (λ z. stmt.If cond z (else_of known around (passed (items_locals (stmts_tree names x inner)) scope) (else_tree names y last)) ∷ []) (b.again inner)
          ∙ ap (λ z. stmt.If cond (up_stmts x) (else_of known around (passed z scope) (else_tree names y last)) ∷ []) count
          ∙ ap (λ z. stmt.If cond (up_stmts x) z ∷ []) (e.again last);
      clean = λ spots.
          let inner = later (later (behind_cond names cond spots)) in
          let last = later (items.after inner (stmts_items names x)) in
          let count : items_locals (stmts_tree names x inner) ≡ counts (parts_of file (up_stmts x)) = items-count names x inner ∙ sym (parts-count file x) in
          limits-append (cond_faults known scope (cond_tree names cond (later (later spots))))
          (items_faults known around (entered scope) (stmts_tree names x inner) ++ else_faults known around (passed (items_locals (stmts_tree names x inner)) scope) (else_tree names y last))
          (c.2 (later (later spots)))
          (limits-append (items_faults known around (entered scope) (stmts_tree names x inner)) _ (b.clean inner)
          (ap (λ z. limits (else_faults known around (passed z scope) (else_tree names y last))) count ∙ e.clean last));
    }

    spelt-while : (cond : Cond) (body : Stmts) → CondHere scope cond → SpeltStmts (looped around) (entered scope) body → SpeltStmt around scope (Loop cond None body)
    spelt-while cond body c b = record {
      ok = ok-append (cond_items names cond) (Is (IsSign s.CloseParen) ∷ Gap ∷ in_braces (stmts_items names body)) c.0
          (ok-append (stmts_items names body) (Is (IsSign s.CloseBrace) ∷ []) b.ok refl);
      again = λ spots.
          let inner = later (later (behind_cond names cond spots)) in
          ap (λ z. stmt.Loop z None (items_of known (looped around) (entered scope) (stmts_tree names body inner)) ∷ []) (c.1 (later (later spots)))
          ∙ ap (λ z. stmt.Loop cond None z ∷ []) (b.again inner);
      clean = λ spots.
          let inner = later (later (behind_cond names cond spots)) in
          limits-append (cond_faults known scope (cond_tree names cond (later (later spots)))) (items_faults known (looped around) (entered scope) (stmts_tree names body inner))
          (c.2 (later (later spots))) (b.clean inner);
    }

    spelt-for : (cond : Cond) (step : Step) (body : Stmts) → CondHere (entered scope) cond → is_step step.act ≡ true → is_valid_act file scope step.act ≡ true → are_valid_ops step.after ≡ true
        → SpeltStmts (looped around) (entered scope) body → SpeltStmt around scope (Loop cond (Some step) body)
    spelt-for cond step body c st v w b =
        let p = spelt-step names known file facts scope locals (entered scope) (λ text. refl) step.act st v in
        record {
          ok = ok-append (cond_items names cond)
              (Is (IsSign s.Semicolon) ∷ Gap ∷ (step_items names step ++ Is (IsSign s.CloseParen) ∷ Gap ∷ in_braces (stmts_items names body))) c.0
              (ok-append (step_items names step) (Is (IsSign s.CloseParen) ∷ Gap ∷ in_braces (stmts_items names body))
              (ok-append (plain_items names step.act) (more_ops_items step.after) p.ok (more-ops-ok step.after w))
              (ok-append (stmts_items names body) (Is (IsSign s.CloseBrace) ∷ []) b.ok refl));
          again = λ spots.
              let start = later (later (later spots)) in
              let behind = later (items.after start (cond_items names cond)) in
              let inner = later (later (items.after behind (step_items names step))) in
              let ops = items.after behind (plain_items names step.act) in
              ap (λ z. stmt.Loop z (step_of known (entered scope) (Some (step_tree names step behind))) (items_of known (looped around) (entered scope) (stmts_tree names body inner)) ∷ []) (c.1 start)
              ∙ ap (λ z. stmt.Loop cond (Some (record { act = z; after = more_ops_of (more_ops_tree step.after ops) })) (items_of known (looped around) (entered scope) (stmts_tree names body inner)) ∷ [])
              (p.again behind)
              ∙ ap (λ z. stmt.Loop cond (Some (record { act = step.act; after = z })) (items_of known (looped around) (entered scope) (stmts_tree names body inner)) ∷ []) (more-ops-again step.after ops)
              ∙ ap (λ z. stmt.Loop cond (Some step) z ∷ []) (b.again inner);
          clean = λ spots.
              let start = later (later (later spots)) in
              let behind = later (items.after start (cond_items names cond)) in
              let inner = later (later (items.after behind (step_items names step))) in
              let ops = items.after behind (plain_items names step.act) in
              let stepped = plain_faults known (entered scope) (plain_tree names step.act behind) ++ more_ops_faults (more_ops_tree step.after ops) in
              limits-append (cond_faults known (entered scope) (cond_tree names cond start)) (stepped ++ items_faults known (looped around) (entered scope) (stmts_tree names body inner)) (c.2 start)
              (limits-append stepped (items_faults known (looped around) (entered scope) (stmts_tree names body inner))
              (limits-append (plain_faults known (entered scope) (plain_tree names step.act behind)) (more_ops_faults (more_ops_tree step.after ops)) (p.clean behind) (more-ops-clean step.after ops))
              (b.clean inner));
        }

  spelt-block : (around : Around) (scope : Scope) (body : Stmts) → SpeltStmts around (entered scope) body → SpeltStmt around scope (Block body)
  spelt-block around scope body b = record {
    ok = ok-append (stmts_items names body) (Is (IsSign s.CloseBrace) ∷ []) b.ok refl;
    again = λ spots. ap (λ z. stmt.Block z ∷ []) (b.again (later spots));
    clean = λ spots. b.clean (later spots);
  }

  spelt-and : (around : Around) (scope : Scope) (st : Stmt) (more : Stmts) → SpeltStmt around scope st → SpeltStmts around (after (part_of file (up_stmt st)) scope) more → SpeltStmts around scope (And st more)
  spelt-and around scope st more a b = record {
    ok = ok-append (stmt_items names st) (stmts_items names more) a.ok b.ok;
    again = λ spots.
        let behind = items.after spots (stmt_items names st) in
        ap (λ z. z ++ items_of known around (item_after scope (stmt_tree names st spots)) (stmts_tree names more behind)) (a.again spots)
        ∙ ap (λ z. up_stmt st ∷ items_of known around z (stmts_tree names more behind)) (item-after file names st scope spots)
        ∙ ap (λ z. up_stmt st ∷ z) (b.again behind);
    clean = λ spots.
        let behind = items.after spots (stmt_items names st) in
        limits-append (item_faults known around scope (stmt_tree names st spots)) (items_faults known around (item_after scope (stmt_tree names st spots)) (stmts_tree names more behind)) (a.clean spots)
        (ap (λ z. limits (items_faults known around z (stmts_tree names more behind))) (item-after file names st scope spots) ∙ b.clean behind);
  }

  -- an `else` whose list stands in braces
  braced-else : (around : Around) (scope : Scope) (st : Stmt) (more : Stmts) → is_lone st more ≡ false → SpeltStmts around (entered scope) (And st more) → SpeltElse around scope (And st more)
  braced-else around scope st more e b = record {
    ok = ap (λ z. items_ok (else_by z (stmt_items names st) (stmts_items names more))) e ∙ ok-append (stmts_items names (And st more)) (Is (IsSign s.CloseBrace) ∷ []) b.ok refl;
    again = λ spots.
        ap (λ z. else_of known around scope (else_tree_by z (stmt_items names st) (stmts_items names more) (stmt_tree names st) (stmts_tree names more) spots)) e ∙ b.again (later (later spots));
    clean = λ spots.
        ap (λ z. limits (else_faults known around scope (else_tree_by z (stmt_items names st) (stmts_items names more) (stmt_tree names st) (stmts_tree names more) spots))) e
        ∙ b.clean (later (later spots));
  }

  -- an `else` with one statement
  one-else : (around : Around) (scope : Scope) (st : Stmt) → SpeltStmt around (entered scope) st → SpeltStmts around (entered scope) (And st NoStmts) → SpeltElse around scope (And st NoStmts)
  one-else around scope (If cond x y) a b = record { ok = a.ok; again = λ spots. a.again (later spots); clean = λ spots. a.clean (later spots) }
  one-else around scope (Simple act ops) a b = braced-else around scope (Simple act ops) NoStmts refl b
  one-else around scope (Jumps j ops) a b = braced-else around scope (Jumps j ops) NoStmts refl b
  one-else around scope (Loop cond step body) a b = braced-else around scope (Loop cond step body) NoStmts refl b
  one-else around scope (Block body) a b = braced-else around scope (Block body) NoStmts refl b

  else-by : (around : Around) (scope : Scope) (st : Stmt) (more : Stmts) → SpeltStmt around (entered scope) st → SpeltStmts around (entered scope) (And st more) → SpeltElse around scope (And st more)
  else-by around scope st NoStmts a b = one-else around scope st a b
  else-by around scope st (And next more) a b = braced-else around scope st (And next more) refl b

  three : (a b c : Bool) → (a && b && c) ≡ true → (a ≡ true) × (b ≡ true) × (c ≡ true)
  three a b c h =
      let x = and_parts (a && b) c h in
      let y = and_parts a b x.0 in
      (y.0, y.1, x.1)

  loop-by : (around : Around) (scope : Scope) (locals : AllKnown names (visible scope)) (cond : Cond) (step : Option Step) (body : Stmts) → is_valid_expr file scope cond.test ≡ true
      → is_valid_step file scope step ≡ true → has_valid_cond cond ≡ true → has_valid_step step ≡ true → SpeltStmts (looped around) (entered scope) body → SpeltStmt around scope (Loop cond step body)
  loop-by around scope locals cond None body v vs w ws b = spelt-while around scope locals cond body (cond-here around scope locals scope (own scope) cond v w) b
  loop-by around scope locals cond (Some step) body v vs w ws b =
      let p = and_parts (is_step step.act) (is_valid_act file scope step.act) vs in
      spelt-for around scope locals cond step body (cond-here around scope locals (entered scope) (λ text. refl) cond v w) p.0 p.1 ws b

  mutual
    spelt-stmt : (st : Stmt) (around : Around) (scope : Scope) → (part_of file (up_stmt st)).is_valid around scope ≡ true → has_valid_ops (up_stmt st) ≡ true → AllKnown names (visible scope)
        → Place names scope.count (own_names st) → SpeltStmt around scope st
    spelt-stmt (Simple a ops) around scope v w locals place =
        spelt-simple around scope a ops (valid-simple file around scope a ops v) (sym (ops-Simple a ops) ∙ w) locals place
    spelt-stmt (Jumps j ops) around scope v w locals place =
        let sj = spelt-jump around scope j ops locals (valid-jump file around scope j ops v) (sym (ops-Jump j ops) ∙ w) in
        record { ok = sj.ok; again = λ spots. ap (λ z. z ∷ []) (sj.again spots); clean = λ spots. sj.clean spots }
    spelt-stmt (If cond x y) around scope v w locals place =
        let vs = valid-if file around scope cond x y v in
        let ws = three (has_valid_cond cond) (have_valid_ops (up_stmts x)) (have_valid_ops (up_stmts y)) (sym (ops-If cond (up_stmts x) (up_stmts y)) ∙ w) in
        let n = counts (parts_of file (up_stmts x)) in
        spelt-if around scope locals cond x y (cond-here around scope locals scope (own scope) cond vs.0 ws.0)
        (spelt-stmts x around (entered scope) vs.1 ws.1 locals (place-left names scope.count (all_names x) (all_names y) place))
        (spelt-else y around (passed n scope) vs.2 ws.2 locals
        (place-right names scope.count (scope.count + n) (all_names x) (all_names y) (ap (λ z. scope.count + z) (parts-count file x)) place))
    spelt-stmt (Loop cond step body) around scope v w locals place =
        let vs = valid-loop file around scope cond step body v in
        let ws = three (has_valid_cond cond) (has_valid_step step) (have_valid_ops (up_stmts body)) (sym (ops-Loop cond step (up_stmts body)) ∙ w) in
        loop-by around scope locals cond step body vs.0 vs.1 ws.0 ws.1 (spelt-stmts body (looped around) (entered scope) vs.2 ws.2 locals place)
    spelt-stmt (Block body) around scope v w locals place =
        spelt-block around scope body (spelt-stmts body around (entered scope) (valid-block file around scope body v) (sym (ops-Block (up_stmts body)) ∙ w) locals place)

    pub spelt-stmts : (body : Stmts) (around : Around) (scope : Scope) → all_valid (parts_of file (up_stmts body)) around scope ≡ true → have_valid_ops (up_stmts body) ≡ true
        → AllKnown names (visible scope) → Place names scope.count (all_names body) → SpeltStmts around scope body
    spelt-stmts NoStmts around scope v w locals place = record { ok = refl; again = λ spots. refl; clean = λ spots. refl }
    spelt-stmts (And st more) around scope v w locals place =
        let behind = after (part_of file (up_stmt st)) scope in
        let vs = and_parts ((part_of file (up_stmt st)).is_valid around scope) (all_valid (parts_of file (up_stmts more)) around behind) v in
        let ws = and_parts (has_valid_ops (up_stmt st)) (have_valid_ops (up_stmts more)) w in
        let left = place-left names scope.count (own_names st) (all_names more) place in
        spelt-and around scope st more (spelt-stmt st around scope vs.0 ws.0 locals left)
        (spelt-stmts more around behind vs.1 ws.1 (known-after names file around scope st vs.0 locals left)
        (place-right names scope.count behind.count (own_names st) (all_names more) (after-count file st scope) place))

    spelt-else : (body : Stmts) (around : Around) (scope : Scope) → all_valid (parts_of file (up_stmts body)) around (entered scope) ≡ true → have_valid_ops (up_stmts body) ≡ true
        → AllKnown names (visible scope) → Place names scope.count (all_names body) → SpeltElse around scope body
    spelt-else NoStmts around scope v w locals place = record { ok = refl; again = λ spots. refl; clean = λ spots. refl }
    spelt-else (And st more) around scope v w locals place =
        let behind = after (part_of file (up_stmt st)) (entered scope) in
        let vs = and_parts ((part_of file (up_stmt st)).is_valid around (entered scope)) (all_valid (parts_of file (up_stmts more)) around behind) v in
        let ws = and_parts (has_valid_ops (up_stmt st)) (have_valid_ops (up_stmts more)) w in
        let left = place-left names scope.count (own_names st) (all_names more) place in
        let first = spelt-stmt st around (entered scope) vs.0 ws.0 locals left in
        let rest = spelt-stmts more around behind vs.1 ws.1 (known-after names file around (entered scope) st vs.0 locals left)
        (place-right names scope.count behind.count (own_names st) (all_names more) (after-count file st (entered scope)) place) in
        else-by around scope st more first (spelt-and around (entered scope) st more first rest)
