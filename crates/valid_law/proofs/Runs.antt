-- Statements one after another keep the rules, and the scope behind them is known.
use Rattle.std.proofs.Common.{◌≡◌, ℕ, ◌+◌, true, ◌&&◌, List, [], ◌∷◌, ◌++◌, Option, Some, None, refl, ap, sym, ◌∙◌, subst, arith}
use Rattle.std.proofs.lemmas.Bool.{and_parts, and_from}
use Rattle.cfix_base.specs.declared.op.Op.{Op}
use Rattle.c_prog.specs.declared.act.Act.{Act}
use Rattle.c_prog.specs.declared.stmt.Stmt.{Stmt}
use Rattle.c_prog.specs.declared.stmt.Stmt.TheVariants as stmt
use Rattle.c_prog.specs.declared.stmt.Stmt.TheOpen.{Stmt-F}
use Rattle.c_prog.specs.Valid.Scope.{Scope, passed}
use Rattle.c_prog.specs.Valid.Kinds.{File}
use Rattle.c_prog.specs.Valid.Acts.{is_valid_act}
use Rattle.c_prog.specs.Valid.Statements.{Around, Part, Declared, declares, own_count, counts, also_declared, after, all_valid, stmt_rules, part_of, parts_of}
use Rattle.c_prog.proofs.ValidEquations.{part-Simple}
use Rattle.c_names.specs.Scopes.{with_local, with_locals}
use Rattle.c_names.specs.SpelledStatements.{with_ops}
use Rattle.valid_law.proofs.Scopes.{passed-zero}

-- the scope behind statements
abbrev pub after_all : List Part → Scope → Scope
after_all [] scope = scope
after_all (part ∷ parts) scope = after_all parts (after part scope)

own-after : (o : Option Declared) (scope : Scope) → (also_declared o scope).count ≡ scope.count + own_count o
own-after None scope = omega (arith)
own-after (Some local) scope = refl

pub after-count : (parts : List Part) (scope : Scope) → (after_all parts scope).count ≡ scope.count + counts parts
after-count [] scope = omega (arith)
after-count (part ∷ parts) scope =
    let own = own-after part.declares scope in
    let rest : (after_all parts (after part scope)).count ≡ (also_declared part.declares scope).count + part.inside + counts parts = after-count parts (after part scope) in
    omega (arith, own, rest)

module _ (file : File) where
  -- The statements keep the rules in what they stand in and from this scope on, and this is the scope behind them.
  pub record Runs (around : Around) (scope : Scope) (list : List Stmt) (next : Scope) : Type 0 where
    pub valid : all_valid (parts_of file list) around scope ≡ true
    pub ends : after_all (parts_of file list) scope ≡ next

  pub runs-none : (around : Around) (scope : Scope) → Runs around scope [] scope
  runs-none around scope = record { valid = refl; ends = refl }

  pub runs-append : (around : Around) (scope middle next : Scope) (xs ys : List Stmt) → Runs around scope xs middle → Runs around middle ys next
      → Runs around scope (xs ++ ys) next
  runs-append around scope middle next [] ys r q = subst (λ (z : Scope). Runs around z ys next) (sym r.ends) q
  runs-append around scope middle next (x ∷ xs) ys r q =
      let part = part_of file x in
      let vs = and_parts (part.is_valid around scope) (all_valid (parts_of file xs) around (after part scope)) r.valid in
      let rest = runs-append around (after part scope) middle next xs ys (record { valid = vs.1; ends = r.ends }) q in
      record { valid = and_from _ _ vs.0 rest.valid; ends = rest.ends }

  -- a statement that declares nothing in its block
  pub runs-inner : (around : Around) (scope : Scope) (s : Stmt) (part : Part) (k : ℕ) → part_of file s ≡ part → part.declares ≡ None → part.inside ≡ k
      → part.is_valid around scope ≡ true → Runs around scope (s ∷ []) (passed k scope)
  runs-inner around scope s part k e none inside valid = record {
    valid = ap (λ (p : Part). p.is_valid around scope && true) e ∙ and_from _ _ valid refl;
    ends = ap (λ (p : Part). after p scope) e ∙ ap (λ o. passed part.inside (also_declared o scope)) none ∙ ap (λ z. passed z scope) inside;
  }

  -- how many locals they declare
  pub runs-count : (around : Around) (scope : Scope) (list : List Stmt) (next : Scope) (k : ℕ) → Runs around scope list next → next.count ≡ scope.count + k
      → counts (parts_of file list) ≡ k
  runs-count around scope list next k r e =
      let own = after-count (parts_of file list) scope in
      let same : (after_all (parts_of file list) scope).count ≡ next.count = ap (λ (z : Scope). z.count) r.ends in
      omega (arith, own, same, e)

  -- a simple statement that declares a local
  runs-declares : (around : Around) (scope : Scope) (a : Act) (ops : List Op) (local : Declared) → is_valid_act file scope a ≡ true → declares a ≡ Some local
      → Runs around scope (stmt.Simple a ops ∷ []) (with_local local scope)
  runs-declares around scope a ops local valid own = record {
    valid = ap (λ (p : Part). p.is_valid around scope && true) (part-Simple file a ops) ∙ and_from _ _ valid refl;
    ends = ap (λ (p : Part). after p scope) (part-Simple file a ops) ∙ ap (λ o. passed 0 (also_declared o scope)) own ∙ passed-zero (with_local local scope);
  }

  -- a simple statement that declares nothing
  pub runs-plain : (around : Around) (scope : Scope) (a : Act) (ops : List Op) → is_valid_act file scope a ≡ true → declares a ≡ None
      → Runs around scope (stmt.Simple a ops ∷ []) (passed 0 scope)
  runs-plain around scope a ops valid own = runs-inner around scope (stmt.Simple a ops) (stmt_rules file (Stmt-F.Simple a ops)) 0 (part-Simple file a ops) own refl valid

  -- Simple statements that declare these locals, each valid behind those before it.
  abbrev pub AllDeclare : Scope → List Act → List Declared → Type 0
  AllDeclare scope [] [] = Unit {0}
  AllDeclare scope [] (x ∷ xs) = ⊥
  AllDeclare scope (a ∷ acts) [] = ⊥
  AllDeclare scope (a ∷ acts) (x ∷ xs) = (is_valid_act file scope a ≡ true) × (declares a ≡ Some x) × AllDeclare (with_local x scope) acts xs

  pub runs-acts : (around : Around) (scope : Scope) (acts : List Act) (locals : List Declared) (ops : List Op) → AllDeclare scope acts locals
      → Runs around scope (with_ops acts ops) (with_locals locals scope)
  runs-acts around scope [] [] ops h = runs-none around scope
  runs-acts around scope [] (x ∷ xs) ops h = absurd h
  runs-acts around scope (a ∷ acts) [] ops h = absurd h
  runs-acts around scope (a ∷ []) (x ∷ []) ops h = runs-declares around scope a ops x h.0 h.1
  runs-acts around scope (a ∷ []) (x ∷ y ∷ xs) ops h = absurd h.2
  runs-acts around scope (a ∷ b ∷ acts) (x ∷ xs) ops h =
      runs-append around scope (with_local x scope) (with_locals xs (with_local x scope)) (stmt.Simple a [] ∷ []) (with_ops (b ∷ acts) ops)
      (runs-declares around scope a [] x h.0 h.1) (runs-acts around (with_local x scope) (b ∷ acts) xs ops h.2)
