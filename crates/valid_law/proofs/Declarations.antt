-- Declarations without faults spell valid ones.
use Rattle.std.proofs.Common.{◌≡◌, ℕ, ◌≤◌, ◌==◌, nat_lt, nat_le, true, false, not, ◌&&◌, ◌||◌, List, [], ◌∷◌, map, Some, refl, subst, arith}
use Rattle.std.proofs.lemmas.Bool.{and_parts, and_from, or_parts, not_from_false, le-leb, ltb-false}
use Rattle.std.specs.List.{list_all}
use Rattle.cfix_base.specs.declared.limits.TheConstants.{MAX_ARRAY_LENGTH}
use Rattle.cfix_base.specs.declared.Spot.{Spot}
use Rattle.cfix_base.specs.declared.op.Op.{Op}
use Rattle.cfix_base.specs.Words.{is_name_text}
use Rattle.c_grammar.specs.Token.{Ident}
use Rattle.c_grammar.specs.Decl as d
use Rattle.c_grammar.specs.Decl.{hold_marks, more_holds_marks, local_int_marks, decl_marks, loop_int_marks}
use Rattle.c_grammar.specs.Stmt as t
use Rattle.c_grammar.specs.Stmt.{first_marks}
use Rattle.c_prog.specs.Valid.Scope.{int, Scope, is_in_block, declared, entered}
use Rattle.c_prog.specs.Valid.Kinds.{File}
use Rattle.c_prog.specs.Valid.Acts.{is_declared_name, is_length, is_valid_act}
use Rattle.c_prog.specs.Valid.Statements.{Around, declares}
use Rattle.c_names.specs.declared.fault.FaultKind.TheVariants.{Twice, Limit}
use Rattle.c_names.specs.Uses.{Names, use_of}
use Rattle.c_names.specs.Names.{reserved_faults, declare_faults, size_length, length_faults}
use Rattle.c_names.specs.Scopes.{local_int_declared, hold_declared, loop_int_declared, with_local, with_locals, listed, decl_declared, in_for}
use Rattle.c_names.specs.Statements.{local_int_faults, local_ints_faults, hold_faults, holds_faults, decl_faults, loop_int_faults, loop_ints_faults, first_faults}
use Rattle.c_names.specs.SpelledExpressions.{plain_of}
use Rattle.c_names.specs.SpelledStatements.{local_int_of, local_ints_of, hold_of, decl_of, loop_int_of, loop_ints_of, with_ops, first_of}
use Rattle.valid_law.specs.Agrees.{Agrees}
use Rattle.valid_law.specs.Lexical.{are_lexical}
use Rattle.valid_law.proofs.Faultless.{none-left, none-right, no_fault}
use Rattle.valid_law.proofs.FileNames.{declared-name, lexical-listed}
use Rattle.valid_law.proofs.Uses.{Means, means-of}
use Rattle.valid_law.proofs.Expressions.{whole-valid, value-valid}
use Rattle.valid_law.proofs.Simples.{plain-valid, plain-declares}
use Rattle.valid_law.proofs.Scopes.{Fits, fits-declared, local-int-kind, loop-int-kind, passed-zero}
use Rattle.valid_law.proofs.Runs.{Runs, runs-plain, AllDeclare, runs-acts}

-- ---- declared names

pub new-name : (names : Names) (scope : Scope) (x : Ident) → is_name_text x.text ≡ true → declare_faults names scope x ≡ []
    → (is_declared_name x.text && not (is_in_block x.text scope)) ≡ true
new-name names scope x t f =
    let once = no_fault (is_in_block x.text scope || (names x.text).is_defined) x.spot Twice (none-right (reserved_faults x) _ f) in
    and_from _ _ (declared-name x t (none-left (reserved_faults x) _ f)) (not_from_false _ (or_parts (is_in_block x.text scope) (names x.text).is_defined once).0)

few : (n : ℕ) → (n == 0 || nat_lt MAX_ARRAY_LENGTH n) ≡ false → nat_le n 2147483647 ≡ true
few n h =
    let below : n ≤ MAX_ARRAY_LENGTH = ltb-false MAX_ARRAY_LENGTH n (or_parts (n == 0) (nat_lt MAX_ARRAY_LENGTH n) h).1 in
    le-leb n 2147483647 (omega (arith, below))

-- the length of an array can be written
pub length-valid : (n : ℕ) (spot : Spot) → length_faults n spot ≡ [] → is_length n ≡ true
length-valid n spot f = few n (no_fault (n == 0 || nat_lt MAX_ARRAY_LENGTH n) spot Limit f)

module _ (names : Names) (file : File) (agrees : Agrees names file) where
  means : (scope : Scope) → Fits scope → (text : List ℕ) → Means file scope text (use_of names scope text)
  means scope k = means-of names file agrees scope k scope refl

  -- ---- declarators

  local-int-declares : (scope : Scope) (x : d.LocalInt) → declares (local_int_of names scope x) ≡ Some (local_int_declared x)
  local-int-declares scope (d.OneLocal x) = refl
  local-int-declares scope (d.SetLocal x at v) = refl
  local-int-declares scope (d.LocalArray x before n after) = refl

  local-int-valid : (k : ℕ) (scope : Scope) (x : d.LocalInt) → Fits scope → are_lexical (local_int_marks k x) ≡ true → local_int_faults names scope x ≡ []
      → is_valid_act file scope (local_int_of names scope x) ≡ true
  local-int-valid k scope (d.OneLocal x) p s f =
      let own = new-name names scope x (and_parts _ _ s).0 f in
      and_from _ _ (and_from _ _ own refl) refl
  local-int-valid k scope (d.SetLocal x at v) p s f =
      let parts = and_parts (is_name_text x.text) _ s in
      let own = new-name names scope x parts.0 (none-left (declare_faults names scope x) _ f) in
      let inner = declared x.text int scope in
      let initial = value-valid names file inner inner (means inner (fits-declared x.text int scope refl p)) k v parts.1 (none-right (declare_faults names scope x) _ f) in
      and_from _ _ (and_from _ _ own refl) initial
  local-int-valid k scope (d.LocalArray x before n after) p s f =
      let own = new-name names scope x (and_parts (is_name_text x.text) _ s).0 (none-left (declare_faults names scope x) _ f) in
      let number = length-valid (size_length names n) x.spot (none-left (length_faults (size_length names n) x.spot) _ (none-right (declare_faults names scope x) _ f)) in
      and_from _ _ (and_from _ _ own number) refl

  local-ints-valid : (k : ℕ) (scope : Scope) (xs : List d.LocalInt) → Fits scope → list_all (λ x. are_lexical (local_int_marks k x)) xs ≡ true → local_ints_faults names scope xs ≡ []
      → AllDeclare file scope (local_ints_of names scope xs) (map local_int_declared xs)
  local-ints-valid k scope [] p s f = tt
  local-ints-valid k scope (x ∷ xs) p s f =
      let inner = with_local (local_int_declared x) scope in (
        local-int-valid k scope x p (and_parts _ _ s).0 (none-left (local_int_faults names scope x) _ f),
        local-int-declares scope x,
        local-ints-valid k inner xs (fits-declared (local_int_declared x).name (local_int_declared x).kind scope (local-int-kind x) p) (and_parts _ _ s).1
            (none-right (local_int_faults names scope x) _ f),
      )

  hold-declares : (x : d.Hold) → declares (hold_of names x) ≡ Some (hold_declared x)
  hold-declares (d.OneThread x) = refl
  hold-declares (d.Threads x before n after) = refl

  hold-valid : (k : ℕ) (scope : Scope) (x : d.Hold) → are_lexical (hold_marks k x) ≡ true → hold_faults names scope x ≡ []
      → is_valid_act file scope (hold_of names x) ≡ true
  hold-valid k scope (d.OneThread x) s f =
      let own = new-name names scope x (and_parts _ _ s).0 f in
      and_from _ _ (and_from _ _ own refl) refl
  hold-valid k scope (d.Threads x before n after) s f =
      let own = new-name names scope x (and_parts (is_name_text x.text) _ s).0 (none-left (declare_faults names scope x) _ f) in
      let number = length-valid (size_length names n) x.spot (none-left (length_faults (size_length names n) x.spot) _ (none-right (declare_faults names scope x) _ f)) in
      and_from _ _ (and_from _ _ own number) refl

  holds-valid : (k : ℕ) (scope : Scope) (xs : List d.Hold) → list_all (λ x. are_lexical (hold_marks k x)) xs ≡ true → holds_faults names scope xs ≡ []
      → AllDeclare file scope (map (hold_of names) xs) (map hold_declared xs)
  holds-valid k scope [] s f = tt
  holds-valid k scope (x ∷ xs) s f = (
    hold-valid k scope x (and_parts _ _ s).0 (none-left (hold_faults names scope x) _ f),
    hold-declares x,
    holds-valid k (with_local (hold_declared x) scope) xs (and_parts _ _ s).1 (none-right (hold_faults names scope x) _ f),
  )

  loop-int-declares : (scope : Scope) (x : d.LoopInt) → declares (loop_int_of names scope x) ≡ Some (loop_int_declared x)
  loop-int-declares scope (d.OneLoop x) = refl
  loop-int-declares scope (d.SetLoop x at e) = refl

  loop-int-valid : (k : ℕ) (scope : Scope) (x : d.LoopInt) → Fits scope → are_lexical (loop_int_marks k x) ≡ true → loop_int_faults names scope x ≡ []
      → is_valid_act file scope (loop_int_of names scope x) ≡ true
  loop-int-valid k scope (d.OneLoop x) p s f =
      let own = new-name names scope x (and_parts _ _ s).0 f in
      and_from _ _ (and_from _ _ own refl) refl
  loop-int-valid k scope (d.SetLoop x at e) p s f =
      let parts = and_parts (is_name_text x.text) _ s in
      let own = new-name names scope x parts.0 (none-left (declare_faults names scope x) _ f) in
      let inner = declared x.text int scope in
      let initial = whole-valid names file inner inner (means inner (fits-declared x.text int scope refl p)) k e parts.1 (none-right (declare_faults names scope x) _ f) in
      and_from _ _ (and_from _ _ own refl) initial

  loop-ints-valid : (k : ℕ) (scope : Scope) (xs : List d.LoopInt) → Fits scope → list_all (λ x. are_lexical (loop_int_marks k x)) xs ≡ true → loop_ints_faults names scope xs ≡ []
      → AllDeclare file scope (loop_ints_of names scope xs) (map loop_int_declared xs)
  loop-ints-valid k scope [] p s f = tt
  loop-ints-valid k scope (x ∷ xs) p s f =
      let inner = with_local (loop_int_declared x) scope in (
        loop-int-valid k scope x p (and_parts _ _ s).0 (none-left (loop_int_faults names scope x) _ f),
        loop-int-declares scope x,
        loop-ints-valid k inner xs (fits-declared (loop_int_declared x).name (loop_int_declared x).kind scope (loop-int-kind x) p) (and_parts _ _ s).1
            (none-right (loop_int_faults names scope x) _ f),
      )

  -- ---- declarations

  -- a declaration of locals
  pub decl-runs : (k : ℕ) (around : Around) (scope : Scope) (decl : d.Decl) (ops : List Op) → Fits scope → are_lexical (decl_marks k decl) ≡ true
      → decl_faults names scope decl ≡ [] → Runs file around scope (with_ops (decl_of names scope decl) ops) (with_locals (decl_declared decl) scope)
  decl-runs k around scope (d.Ints at x more) ops p s f =
      runs-acts file around scope (local_ints_of names scope (listed x more)) (map local_int_declared (listed x more)) ops
      (local-ints-valid k scope (listed x more) p (lexical-listed k (local_int_marks k) x more s) f)
  decl-runs k around scope (d.Holds at x more) ops p s f =
      runs-acts file around scope (map (hold_of names) (listed x more)) (map hold_declared (listed x more)) ops
      (holds-valid k scope (listed x more) (lexical-listed k (hold_marks k) x more s) f)

  -- the first part of a `for`, in its block
  pub first-runs : (k : ℕ) (around : Around) (scope : Scope) (first : t.First) → Fits scope → are_lexical (first_marks k first) ≡ true
      → first_faults names (entered scope) (Some first) ≡ [] → Runs file around (entered scope) (first_of names (entered scope) first) (in_for (Some first) scope)
  first-runs k around scope (t.FirstInts at x more) p s f =
      runs-acts file around (entered scope) (loop_ints_of names (entered scope) (listed x more)) (map loop_int_declared (listed x more)) []
      (loop-ints-valid k (entered scope) (listed x more) p (lexical-listed k (loop_int_marks k) x more s) f)
  first-runs k around scope (t.FirstPlain p) fits s f =
      let inner = entered scope in
      subst (λ (z : Scope). Runs file around inner (first_of names inner (t.FirstPlain p)) z) (passed-zero inner)
      (runs-plain file around inner (plain_of names inner p) [] (plain-valid names file inner inner (means inner fits) k p s f) (plain-declares names inner p))
