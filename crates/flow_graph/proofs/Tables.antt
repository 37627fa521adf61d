-- The places that a table of successors holds.
use Rattle.std.proofs.Common.{◌≡◌, ℕ, suc, ◌+◌, ◌-◌, ◌<◌, ◌≤◌, Bool, false, ◌==◌, List, [], ◌∷◌, ◌++◌, length, slice_get, Option, Some, None, if◌then◌else◌, inl, inr, ap, sym, ◌∙◌, refl, arith, append_assoc}
use Rattle.std.proofs.lemmas.List.{append-nil}
use Rattle.std.proofs.lemmas.Bool.Decides.{eqb_tells, leb_tells}
use Rattle.cfix_base.specs.declared.place.Place.{Place}
use Rattle.cfix_base.specs.declared.place.Place.TheVariants.{Start, After, True, False}
use Rattle.flow_graph.specs.declared.table.Out.{Out}
use Rattle.flow_graph.specs.declared.table.Out.TheVariants as out
use Rattle.flow_graph.specs.declared.table.Table.{Table}
use Rattle.flow_graph.specs.Flow.{Way, Next, node, fn_id, next_at}
use Rattle.flow_graph.specs.Table.{out_ways, ways_of, table_ways, out_at, after_next, true_next, false_next}

pub ways_added : (n : ℕ) (outs : List Out) (o : Out) → ways_of n (outs ++ o ∷ []) ≡ ways_of n outs ++ out_ways (n + length outs) o
ways_added n [] o =
    let same : n ≡ n + 0 = omega arith in
    append-nil (out_ways n o) ∙ ap (λ m. out_ways m o) same
ways_added n (p ∷ outs) o =
    let same : n + 1 + length outs ≡ n + suc (length outs) = omega arith in
    ap (λ ways. out_ways n p ++ ways) (ways_added (n + 1) outs o)
    ∙ sym (append_assoc (out_ways n p) (ways_of (n + 1) outs) (out_ways (n + 1 + length outs) o))
    ∙ ap (λ m. out_ways n p ++ ways_of (n + 1) outs ++ out_ways m o) same

-- the first of the two that is there
abbrev or_else : Option Next → Option Next → Option Next
or_else (Some next) other = Some next
or_else None other = other

or_else-none : (found : Option Next) → or_else found None ≡ found
or_else-none (Some next) = refl
or_else-none None = refl

-- a kind of place, and what it finds behind a node
record Finds (place : ℕ → Place) (pick : Option Out → Option Next) : Type 0 where
  nothing : pick None ≡ None
  here : (n : ℕ) (o : Out) (ways : List Way) → next_at (place n) (out_ways n o ++ ways) ≡ or_else (pick (Some o)) (next_at (place n) ways)
  there : (n k : ℕ) → (n == k) ≡ false → (o : Out) (ways : List Way) → next_at (place k) (out_ways n o ++ ways) ≡ next_at (place k) ways

module _ (place : ℕ → Place) (pick : Option Out → Option Next) (finds : Finds place pick) where
  none_below : (n : ℕ) (outs : List Out) (k : ℕ) → k < n → next_at (place k) (ways_of n outs) ≡ None
  none_below n [] k below = refl
  none_below n (o ∷ outs) k below =
      elim (eqb_tells n k) [
        | inl same ↦ absurd (omega (arith, same.1, below))
        | inr differ ↦ finds.there n k differ.0 o (ways_of (n + 1) outs) ∙ none_below (n + 1) outs k (omega (arith, below))
      ]

  found_in : (n : ℕ) (outs : List Out) (k : ℕ) → n ≤ k → next_at (place k) (ways_of n outs) ≡ pick (slice_get outs (k - n))
  found_in n [] k past = sym finds.nothing
  found_in n (o ∷ outs) k past =
      elim (eqb_tells n k) [
        | inl same ↦
            let first : 0 ≡ k - n = omega (arith, same.1) in
            ap (λ m. next_at (place m) (ways_of n (o ∷ outs))) (sym same.1)
            ∙ finds.here n o (ways_of (n + 1) outs)
            ∙ ap (or_else (pick (Some o))) (none_below (n + 1) outs n (omega arith))
            ∙ or_else-none (pick (Some o))
            ∙ ap (λ i. pick (slice_get (o ∷ outs) i)) first
        | inr differ ↦
            let below : n < k = omega (arith, differ.1, past) in
            let later : suc (k - (n + 1)) ≡ k - n = omega (arith, below) in
            finds.there n k differ.0 o (ways_of (n + 1) outs)
            ∙ found_in (n + 1) outs k (omega (arith, below))
            ∙ ap (λ i. pick (slice_get (o ∷ outs) i)) later
      ]

  found_at : (table : Table) (k : ℕ) → next_at (place k) (table_ways table) ≡ pick (out_at table k)
  found_at table k =
      elim (leb_tells (suc k) table.first) [
        | inl below ↦
            none_below table.first table.outs k (omega (arith, below.1)) ∙ sym finds.nothing
            ∙ ap (λ b. pick (if b then None else slice_get table.outs (k - table.first))) (sym below.0)
        | inr past ↦
            found_in table.first table.outs k (omega (arith, past.1))
            ∙ ap (λ b. pick (if b then None else slice_get table.outs (k - table.first))) (sym past.0)
      ]

if-false : {A : Type 0} (b : Bool) (x y : A) → b ≡ false → (if b then x else y) ≡ y
if-false b x y e = ap (λ c. if c then x else y) e

if-same : {A : Type 0} (n : ℕ) (x y : A) → (if n == n then x else y) ≡ x
if-same n x y =
    elim (eqb_tells n n) [
      | inl same ↦ ap (λ c. if c then x else y) same.0
      | inr differ ↦ absurd (differ.1 refl)
    ]

finds-after : Finds (λ n. After (node n)) after_next
finds-after = record {
  nothing = refl;
  here = λ n o ways. elim o as (λ o. next_at (After (node n)) (out_ways n o ++ ways) ≡ or_else (after_next (Some o)) (next_at (After (node n)) ways)) [
    | out.After next ↦ if-same n (Some next) (next_at (After (node n)) ways)
    | out.Branch on_true on_false ↦ refl
  ];
  there = λ n k differ o ways. elim o as (λ o. next_at (After (node k)) (out_ways n o ++ ways) ≡ next_at (After (node k)) ways) [
    | out.After next ↦ if-false (n == k) (Some next) (next_at (After (node k)) ways) differ
    | out.Branch on_true on_false ↦ refl
  ];
}

finds-true : Finds (λ n. True (node n)) true_next
finds-true = record {
  nothing = refl;
  here = λ n o ways. elim o as (λ o. next_at (True (node n)) (out_ways n o ++ ways) ≡ or_else (true_next (Some o)) (next_at (True (node n)) ways)) [
    | out.After next ↦ refl
    | out.Branch on_true on_false ↦ if-same n (Some on_true.next) (next_at (True (node n)) ways)
  ];
  there = λ n k differ o ways. elim o as (λ o. next_at (True (node k)) (out_ways n o ++ ways) ≡ next_at (True (node k)) ways) [
    | out.After next ↦ refl
    | out.Branch on_true on_false ↦ if-false (n == k) (Some on_true.next) (next_at (True (node k)) ways) differ
  ];
}

finds-false : Finds (λ n. False (node n)) false_next
finds-false = record {
  nothing = refl;
  here = λ n o ways. elim o as (λ o. next_at (False (node n)) (out_ways n o ++ ways) ≡ or_else (false_next (Some o)) (next_at (False (node n)) ways)) [
    | out.After next ↦ refl
    | out.Branch on_true on_false ↦ if-same n (Some on_false.next) (next_at (False (node n)) ways)
  ];
  there = λ n k differ o ways. elim o as (λ o. next_at (False (node k)) (out_ways n o ++ ways) ≡ next_at (False (node k)) ways) [
    | out.After next ↦ refl
    | out.Branch on_true on_false ↦ if-false (n == k) (Some on_false.next) (next_at (False (node k)) ways) differ
  ];
}

pub after_found : (table : Table) (k : ℕ) → next_at (After (node k)) (table_ways table) ≡ after_next (out_at table k)
after_found table k = found_at (λ n. After (node n)) after_next finds-after table k

pub true_found : (table : Table) (k : ℕ) → next_at (True (node k)) (table_ways table) ≡ true_next (out_at table k)
true_found table k = found_at (λ n. True (node n)) true_next finds-true table k

pub false_found : (table : Table) (k : ℕ) → next_at (False (node k)) (table_ways table) ≡ false_next (out_at table k)
false_found table k = found_at (λ n. False (node n)) false_next finds-false table k

-- a function's start stands behind no node
pub start_absent : (f n : ℕ) (outs : List Out) → next_at (Start (fn_id f)) (ways_of n outs) ≡ None
start_absent f n [] = refl
start_absent f n (out.After next ∷ outs) = start_absent f (n + 1) outs
start_absent f n (out.Branch on_true on_false ∷ outs) = start_absent f (n + 1) outs
