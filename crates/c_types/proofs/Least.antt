-- The fault that is kept is the least.
use Rattle.std.proofs.Common.{◌≡◌, ℕ, zero, suc, ◌<◌, Bool, true, false, nat_lt, ◌==◌, ◌&&◌, ◌||◌, cond, List, [], ◌∷◌, length, Some, None, refl, ap, sym, subst, ◌∙◌, arith, Contains, get_or}
use Rattle.std.proofs.lemmas.Bool.Decides.{nat_tests}
use Rattle.std.proofs.lemmas.List.Elements.{All-cons, All-head, All-tail, Contains-append_right}
use Rattle.c_names.specs.declared.fault.Fault.{Fault}
use Rattle.c_names.specs.Faults.{rank, comes_before, noted, noted_all, IsLeast}

abbrev lex : ℕ → ℕ → ℕ → ℕ → Bool
lex a x b y = nat_lt a b || (a == b && nat_lt x y)

lex-through : (a x b y c z : ℕ) → lex b y a x ≡ false → lex c z b y ≡ false → lex c z a x ≡ false
lex-through a x b y c z p q = grind (arith, nat_tests)

lex-apart : (a x b y : ℕ) → lex a x b y ≡ true → lex b y a x ≡ false
lex-apart a x b y p = grind (arith, nat_tests)

lex-same : (a x : ℕ) → lex a x a x ≡ false
lex-same a x = grind (arith, nat_tests)

through : (a b c : Fault) → comes_before b a ≡ false → comes_before c b ≡ false → comes_before c a ≡ false
through a b c = lex-through a.spot.at (rank a.kind) b.spot.at (rank b.kind) c.spot.at (rank c.kind)

apart : (a b : Fault) → comes_before a b ≡ true → comes_before b a ≡ false
apart a b = lex-apart a.spot.at (rank a.kind) b.spot.at (rank b.kind)

same : (a : Fault) → comes_before a a ≡ false
same a = lex-same a.spot.at (rank a.kind)

weaker : (x g : Fault) (gs : List Fault) (f : Fault) → Contains (x ∷ gs) f → Contains (x ∷ g ∷ gs) f
weaker x g gs f h = by h.0 h.1 h.2
  where
    by : (k : ℕ) → (k < length (x ∷ gs)) → (get_or (x ∷ gs) k f ≡ f) → Contains (x ∷ g ∷ gs) f
    by zero lt at = (0, omega arith, at)
    by (suc k) lt at = (suc (suc k), omega arith, at)

unfolds : (kept g : Fault) → noted (Some kept) g ≡ cond (comes_before g kept) (Some g) (Some kept)
unfolding noted
unfolds kept g = refl

pub least-from : (faults : List Fault) (kept f : Fault) → noted_all (Some kept) faults ≡ Some f → IsLeast f (kept ∷ faults)
least-from [] kept f h =
    let e : kept ≡ f = cc in
    record { among = (0, omega arith, e); least = All-cons (λ g. comes_before g f ≡ false) kept [] (subst (λ g. comes_before kept g ≡ false) e (same kept)) (λ k d lt. absurd (omega arith)) }
least-from (g ∷ gs) kept f h =
    by (comes_before g kept) refl (least-from gs g f) (least-from gs kept f) (ap (λ k. noted_all k gs) (sym (unfolds kept g)) ∙ h)
  where
    by : (b : Bool) → comes_before g kept ≡ b
        → (noted_all (Some g) gs ≡ Some f → IsLeast f (g ∷ gs))
        → (noted_all (Some kept) gs ≡ Some f → IsLeast f (kept ∷ gs))
        → noted_all (cond b (Some g) (Some kept)) gs ≡ Some f
        → IsLeast f (kept ∷ g ∷ gs)
    by true e taken stays h =
        let rest = taken h in
        record {
          among = Contains-append_right (kept ∷ []) (g ∷ gs) f rest.among;
          least = All-cons (λ x. comes_before x f ≡ false) kept (g ∷ gs)
              (through f g kept (All-head (λ x. comes_before x f ≡ false) g gs rest.least) (apart g kept e)) rest.least;
        }
    by false e taken stays h =
        let rest = stays h in
        let first = All-head (λ x. comes_before x f ≡ false) kept gs rest.least in
        record {
          among = weaker kept g gs f rest.among;
          least = All-cons (λ x. comes_before x f ≡ false) kept (g ∷ gs) first
              (All-cons (λ x. comes_before x f ≡ false) g gs (through f kept g first e) (All-tail (λ x. comes_before x f ≡ false) kept gs rest.least));
        }

first_noted : (g : Fault) → noted None g ≡ Some g
unfolding noted
first_noted g = refl

-- where a fault is kept, it is the least
pub least-kept : (faults : List Fault) (f : Fault) → noted_all None faults ≡ Some f → IsLeast f faults
least-kept [] f h = absurd cc
least-kept (g ∷ gs) f h = least-from gs g f (ap (λ kept. noted_all kept gs) (sym (first_noted g)) ∙ h)

noted-some : (kept g : Fault) → (x : Fault) × (noted (Some kept) g ≡ Some x)
noted-some kept g = by (comes_before g kept) (unfolds kept g)
  where
    by : (b : Bool) → noted (Some kept) g ≡ cond b (Some g) (Some kept) → (x : Fault) × (noted (Some kept) g ≡ Some x)
    by true e = (g, e)
    by false e = (kept, e)

stays-some : (faults : List Fault) (kept : Fault) → noted_all (Some kept) faults ≡ None → ⊥
stays-some [] kept h = cc
stays-some (g ∷ gs) kept h =
    let next = noted-some kept g in
    stays-some gs next.0 (ap (λ k. noted_all k gs) (sym next.1) ∙ h)

-- where none is kept, there is none
pub none-kept : (faults : List Fault) → noted_all None faults ≡ None → faults ≡ []
none-kept [] h = refl
none-kept (g ∷ gs) h = absurd (stays-some gs g (ap (λ kept. noted_all kept gs) (sym (first_noted g)) ∙ h))

pub ruleset kept = (least-kept, none-kept)
