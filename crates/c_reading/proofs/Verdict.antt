-- What the laws of a reader say of a whole text.
use Rattle.std.proofs.Common.{◌≡◌, ℕ, suc, ◌+◌, ◌≤◌, ◌<◌, ltb, max, Bool, true, false, List, [], ◌∷◌, ◌++◌, Option, Some, None, refl, sym, ap, subst, ◌∙◌, append_assoc, inl, inr, ◌⊎◌, cond, arith}
use Rattle.std.proofs.lemmas.List.{append-nil}
use Rattle.std.proofs.lemmas.Bool.{ltb-true, ltb-false, le-ltb}
use Rattle.c_reading.specs.Reader.{Fault, Unexpected, Deep, Out, Got, Stop, first_deep, Lang, outcome, size}
use Rattle.c_grammar.specs.Marks.{head, tokens}
use Rattle.c_grammar.specs.Verdict.{IsShallow, HasOneTree, FixesDepths, IsBegun, IsRead, IsUnexpectedAt, IsDeepAt}
use Rattle.c_reading.specs.Exact.{ReadsExactly}
use Rattle.c_reading.proofs.Reader.{Faults, IsReader, Got-inj, deep-append, tokens-append, size_behind, stop_in}

-- ---- depths

pub shallow_none : {T : Type 0} (limit : ℕ) (ms : List (T × ℕ)) → first_deep limit ms ≡ None → IsShallow limit ms
shallow_none limit [] e = tt
shallow_none {T} limit (m ∷ ms) e = at (ltb limit m.1) refl e (shallow_none limit ms)
  where
    at : (v : Bool) → ltb limit m.1 ≡ v → cond v (Some (m.0 ∷ tokens ms)) (first_deep limit ms) ≡ None → (first_deep limit ms ≡ None → IsShallow limit ms) → (m.1 ≤ limit) × IsShallow limit ms
    at true h e f = absurd cc
    at false h e f = (ltb-false limit m.1 h, f e)

pub none_shallow : {T : Type 0} (limit : ℕ) (ms : List (T × ℕ)) → IsShallow limit ms → first_deep limit ms ≡ None
none_shallow limit [] h = refl
none_shallow limit (m ∷ ms) h = rw (le-ltb limit m.1 h.0) (none_shallow limit ms h.1)

shallow_first : {T : Type 0} (limit : ℕ) (xs ys : List (T × ℕ)) → IsShallow limit (xs ++ ys) → IsShallow limit xs
shallow_first limit [] ys h = tt
shallow_first limit (x ∷ xs) ys h = (h.0, shallow_first limit xs ys h.1)

shallow_at : {T : Type 0} (limit : ℕ) (xs ys : List (T × ℕ)) (m : T × ℕ) → IsShallow limit (xs ++ m ∷ ys) → m.1 ≤ limit
shallow_at limit [] ys m h = h.0
shallow_at limit (x ∷ xs) ys m h = shallow_at limit xs ys m h.1

-- the depth of the deepest token
abbrev highest : {T : Type 0} → List (T × ℕ) → ℕ
highest [] = 0
highest (m ∷ ms) = max m.1 (highest ms)

highest_none : {T : Type 0} (limit : ℕ) (ms : List (T × ℕ)) → highest ms ≤ limit → first_deep limit ms ≡ None
highest_none limit [] h = refl
highest_none limit (m ∷ ms) h = rw (le-ltb limit m.1 (omega (arith, h))) (highest_none limit ms (omega (arith, h)))

-- the tokens from the first too deep one on are no more than all
deep_size : {T : Type 0} (limit : ℕ) (ms : List (T × ℕ)) (s : List T) → first_deep limit ms ≡ Some s → size s ≤ size (tokens ms)
deep_size limit [] s e = absurd cc
deep_size {T} limit (m ∷ ms) s e = at (ltb limit m.1) e (deep_size limit ms s)
  where
    at : (v : Bool) → cond v (Some (m.0 ∷ tokens ms)) (first_deep limit ms) ≡ Some s → (first_deep limit ms ≡ Some s → size s ≤ size (tokens ms)) → size s ≤ suc (size (tokens ms))
    at true e f = let h : m.0 ∷ tokens ms ≡ s = cc in let k = ap size h in omega (arith, k)
    at false e f = let k = f e in omega (arith, k)

deep_some : {T : Type 0} (limit : ℕ) (ms : List (T × ℕ)) (s : List T) → first_deep limit ms ≡ Some s → (u : T) × (us : List T) × (s ≡ u ∷ us)
deep_some limit [] s e = absurd cc
deep_some {T} limit (m ∷ ms) s e = at (ltb limit m.1) e (deep_some limit ms s)
  where
    at : (v : Bool) → cond v (Some (m.0 ∷ tokens ms)) (first_deep limit ms) ≡ Some s → (first_deep limit ms ≡ Some s → (u : T) × (us : List T) × (s ≡ u ∷ us)) → (u : T) × (us : List T) × (s ≡ u ∷ us)
    at true e f = (m.0, tokens ms, let h : m.0 ∷ tokens ms ≡ s = cc in sym h)
    at false e f = f e

-- it begins with a token of the list, behind tokens that are not too deep
deep_here : {T : Type 0} (limit : ℕ) (ms tail : List (T × ℕ)) (m : T × ℕ) → first_deep limit (ms ++ m ∷ tail) ≡ Some (m.0 ∷ tokens tail) → IsShallow limit ms × (limit < m.1)
deep_here {T} limit [] tail m e = at (ltb limit m.1) refl e
  where
    at : (v : Bool) → ltb limit m.1 ≡ v → cond v (Some (m.0 ∷ tokens tail)) (first_deep limit tail) ≡ Some (m.0 ∷ tokens tail) → IsShallow {T = T} limit [] × (limit < m.1)
    at true h e = (tt, ltb-true limit m.1 h)
    at false h e = let k = deep_size limit tail (m.0 ∷ tokens tail) e in absurd (omega (arith, k))
deep_here {T} limit (x ∷ ms) tail m e = at (ltb limit x.1) refl e (deep_here limit ms tail m)
  where
    at : (v : Bool) → ltb limit x.1 ≡ v → cond v (Some (x.0 ∷ tokens (ms ++ m ∷ tail))) (first_deep limit (ms ++ m ∷ tail)) ≡ Some (m.0 ∷ tokens tail)
        → (first_deep limit (ms ++ m ∷ tail) ≡ Some (m.0 ∷ tokens tail) → IsShallow limit ms × (limit < m.1)) → ((x.1 ≤ limit) × IsShallow limit ms) × (limit < m.1)
    at true h e f =
        let k : x.0 ∷ tokens (ms ++ m ∷ tail) ≡ m.0 ∷ tokens tail = cc in
        let n = ap size k in
        let t = ap size (tokens-append ms (m ∷ tail)) in
        let b = size_behind (tokens ms) (tokens (m ∷ tail)) in
        absurd (omega (arith, n, t, b))
    at false h e f = let r = f e in ((ltb-false limit x.1 h, r.0), r.1)

-- ---- lists in two parts

pub record Cut {T : Type 0} (ms : List (T × ℕ)) (s t : List T) : Type 0 where
  pub before : List (T × ℕ)
  pub behind : List (T × ℕ)
  pub parts : ms ≡ before ++ behind
  pub before_is : tokens before ≡ s
  pub behind_is : tokens behind ≡ t

tail_same : {T : Type 0} (x y : T) (xs ys : List T) → x ∷ xs ≡ y ∷ ys → (x ≡ y) × (xs ≡ ys)
tail_same x y xs ys e = (cc, cc)

cut : {T : Type 0} (ms : List (T × ℕ)) (s t : List T) → tokens ms ≡ s ++ t → Cut ms s t
cut ms [] t e = record { before = []; behind = ms; parts = refl; before_is = refl; behind_is = e }
cut [] (x ∷ s) t e = absurd cc
cut {T} (m ∷ ms) (x ∷ s) t e =
    let i = tail_same m.0 x (tokens ms) (s ++ t) e in
    let c = cut ms s t i.1 in
    record {
      before = m ∷ c.before;
      behind = c.behind;
      parts = ap (λ (z : List (T × ℕ)). m ∷ z) c.parts;
      before_is = ap (λ (z : List T). m.0 ∷ z) c.before_is ∙ ap (λ (z : T). z ∷ s) i.0;
      behind_is = c.behind_is;
    }

-- one list in two parts twice: at one place, or the first parts differ by a token and more
abbrev Longer : {T : Type 0} → List T → List T → List T → List T → Type 0
Longer {T} s r s2 r2 = (x : T) × (w : List T) × (s2 ≡ s ++ x ∷ w) × (r ≡ x ∷ (w ++ r2))

split : {T : Type 0} (s r s2 r2 : List T) → s ++ r ≡ s2 ++ r2 → ((s ≡ s2) × (r ≡ r2)) ⊎ (Longer s r s2 r2 ⊎ Longer s2 r2 s r)
split [] r [] r2 e = inl (refl, e)
split [] r (y ∷ s2) r2 e = inr (inl (y, s2, refl, e))
split (x ∷ s) r [] r2 e = inr (inr (x, s, refl, sym e))
split {T} (x ∷ s) r (y ∷ s2) r2 e =
    let i = tail_same x y (s ++ r) (s2 ++ r2) e in
    elim (split s r s2 r2 i.1) [
      | inl h ↦ inl (ap (λ (z : T). z ∷ s) i.0 ∙ ap (λ (z : List T). y ∷ z) h.0, h.1)
      | inr (inl h) ↦ inr (inl (h.0, h.1, ap (λ (z : List T). y ∷ z) h.2 ∙ ap (λ (z : T). z ∷ (s ++ h.0 ∷ h.1)) (sym i.0), h.3))
      | inr (inr h) ↦ inr (inr (h.0, h.1, ap (λ (z : List T). x ∷ z) h.2 ∙ ap (λ (z : T). z ∷ (s2 ++ h.0 ∷ h.1)) i.0, h.3))
    ]

cancel : {T : Type 0} (xs ys zs : List T) → xs ++ zs ≡ ys ++ zs → xs ≡ ys
cancel xs ys zs e =
    elim (split xs zs ys zs e) [
      | inl h ↦ h.0
      | inr (inl h) ↦ absurd (let k = ap size h.3 in let b = size_behind h.1 zs in omega (arith, k, b))
      | inr (inr h) ↦ absurd (let k = ap size h.3 in let b = size_behind h.1 zs in omega (arith, k, b))
    ]

-- ---- outcomes

none_outcome : {T A : Type 0} (a : A) (d : Option (List T)) (rest r : List T) → outcome a d rest ≡ Stop Unexpected r → ⊥
none_outcome a None rest r e = cc
none_outcome a (Some s) rest r e = cc

deep_outcome : {T A : Type 0} (a : A) (d : Option (List T)) (r : List T) → outcome a d [] ≡ Stop Deep r → d ≡ Some r
deep_outcome a None r e = absurd cc
deep_outcome {T} a (Some z) r e = let h : z ++ [] ≡ r = cc in ap (λ (t : List T). Some t) (sym (append-nil z) ∙ h)

head_is : {T : Type 0} (s : List T) (x : T) → head s ≡ Some x → (t : List T) × (s ≡ x ∷ t)
head_is [] x h = absurd cc
head_is {T} (y ∷ t) x h = (t, let e : y ≡ x = cc in ap (λ (z : T). z ∷ t) e)

-- a reader for each limit
module _ {T A : Type 0} (marks : A → List (T × ℕ)) (good : A → Bool) (stops : A → Option T → Bool) (p : ℕ → List T → Out T A)
    (rp : (limit : ℕ) → IsReader limit (record { marks = marks; good = good; stops = stops }) (p limit)) (ends : (a : A) → good a ≡ true → stops a None ≡ true) (empties : (limit : ℕ) (ts : List T) (a : A) (rest : List T) → p limit ts ≡ Got a rest → rest ≡ []) where
  abbrev l : Lang T A
  l = record { marks = marks; good = good; stops = stops }

  read_all : (limit : ℕ) (a : A) → good a ≡ true → p limit (tokens (marks a)) ≡ outcome a (first_deep limit (marks a)) []
  read_all limit a g = ap (p limit) (sym (append-nil (tokens (marks a)))) ∙ (rp limit).complete a [] g (ends a g)

  pub one_tree : HasOneTree marks good
  one_tree a b ga gb e =
      let limit = highest (marks a) + highest (marks b) in
      let da = highest_none limit (marks a) (omega arith) in
      let db = highest_none limit (marks b) (omega arith) in
      let ea : p limit (tokens (marks a)) ≡ Got a [] = read_all limit a ga ∙ rw da refl in
      let eb : p limit (tokens (marks b)) ≡ Got b [] = read_all limit b gb ∙ rw db refl in
      (Got-inj a b [] [] (sym ea ∙ ap (p limit) e ∙ eb)).0

  pub fixes_depths : FixesDepths marks good
  fixes_depths a b ga gb =
      let limit = highest (marks a) + highest (marks b) in
      (rp limit).fixed a b None None ga gb (ends a ga) (ends b gb) (highest_none limit (marks a) (omega arith)) (highest_none limit (marks b) (omega arith))

  module _ (limit : ℕ) where
    -- what is read of a whole tree, where its tokens after seen are given
    at_value : (f : Fault) (ts rest : List T) (y : Faults l (p limit) ts f rest) (x : T) (more tail : List T) (a : A) → rest ≡ x ∷ more → good a ≡ true → tokens (marks a) ≡ y.seen ++ (x ∷ tail)
        → outcome a (first_deep limit (marks a)) [] ≡ Stop f (x ∷ tail)
    at_value f ts rest y x more tail a h g e = sym (read_all limit a g) ∙ ap (p limit) e ∙ y.same (x ∷ tail) (sym (ap head h))

    -- a fault at a token is too deep in each tree that begins so
    deep_before : (ts rest : List T) (y : Faults l (p limit) ts Unexpected rest) (a : A) (ms more : List (T × ℕ)) → good a ≡ true → marks a ≡ ms ++ more → tokens ms ≡ y.seen → first_deep limit ms ≡ None
    deep_before ts rest y a ms more g parts e = by (first_deep limit ms) refl
      where
        none_of : (x : List T) → first_deep limit ms ≡ Some x → ⊥
        none_of x h =
            let whole : first_deep limit (marks a) ≡ Some (x ++ tokens more) = ap (first_deep limit) parts ∙ deep-append limit ms more ∙ rw h refl in
            let stop : p limit (tokens (marks a)) ≡ Stop Deep ((x ++ tokens more) ++ []) = read_all limit a g ∙ rw whole refl in
            let z = (rp limit).fault (tokens (marks a)) Deep ((x ++ tokens more) ++ []) stop in
            let all : tokens ms ++ tokens more ≡ (z.seen ++ x) ++ tokens more = sym (tokens-append ms more) ∙ ap tokens (sym parts) ∙ z.parts ∙ ap (λ (w : List T). z.seen ++ w) (append-nil (x ++ tokens more)) ∙ sym (append_assoc z.seen x (tokens more)) in
            let here : y.seen ≡ z.seen ++ x = sym e ∙ cancel (tokens ms) (z.seen ++ x) (tokens more) all in
            let here2 : z.seen ++ (x ++ rest) ≡ ts = sym (append_assoc z.seen x rest) ∙ ap (λ (w : List T). w ++ rest) (sym here) ∙ sym y.parts in
            differ (x ++ rest) rest (sym (z.same (x ++ rest) (head_same x (tokens more) rest (deep_some limit ms x h))) ∙ ap (p limit) (here2 ∙ y.parts) ∙ y.same rest refl)
          where
            differ : (r r2 : List T) → stop_in T A Deep r ≡ Stop Unexpected r2 → ⊥
            differ r r2 e = cc

            head_same : (x more rest : List T) → (u : T) × (us : List T) × (x ≡ u ∷ us) → head (x ++ rest) ≡ head ((x ++ more) ++ [])
            head_same x more rest h = let e = h.2 in rw e refl

        by : (o : Option (List T)) → first_deep limit ms ≡ o → first_deep limit ms ≡ None
        by None h = h
        by (Some x) h = absurd (none_of x h)

    found : (ts : List T) (a : A) (rest : List T) → p limit ts ≡ Got a rest → (rest ≡ []) × IsRead limit marks good ts a
    found ts a rest e =
        let x = (rp limit).sound ts a rest e in
        let n = empties limit ts a rest e in
        (n, record { derived = x.good; spelled = x.whole ∙ ap (λ (z : List T). tokens (marks a) ++ z) n ∙ append-nil (tokens (marks a)); shallow = shallow_none limit (marks a) x.level })

    finds : (ts : List T) (a : A) → IsRead limit marks good ts a → p limit ts ≡ Got a []
    finds ts a r = let d = none_shallow limit (marks a) r.shallow in ap (p limit) r.spelled ∙ read_all limit a r.derived ∙ rw d refl

    unexpected : (ts rest : List T) → p limit ts ≡ Stop Unexpected rest → IsUnexpectedAt limit marks good ts rest
    unexpected ts rest e =
        let y = (rp limit).fault ts Unexpected rest e in
        record {
          seen = y.seen;
          parts = y.parts;
          begun = (y.value, y.suffix, y.good, y.whole);
          none = λ x more h b. none_outcome b.0 (first_deep limit (marks b.0)) [] (x ∷ b.1) (at_value Unexpected ts rest y x more b.1 b.0 h b.2 (b.3 ∙ append_assoc y.seen (x ∷ []) b.1));
          part = λ h a g k. none_outcome a (first_deep limit (marks a)) [] rest (sym (read_all limit a g) ∙ ap (p limit) k ∙ e);
          shallow = λ a ms more g parts k. shallow_none limit ms (deep_before ts rest y a ms more g parts k);
        }

    too_deep : (ts rest : List T) → p limit ts ≡ Stop Deep rest → IsDeepAt limit marks good ts rest
    too_deep ts rest e =
        let y = (rp limit).fault ts Deep rest e in
        let x = y.place.0 in
        let r = head_is rest x y.place.1 in
        let t = head_is y.suffix x y.place.2 in
        record {
          seen = y.seen;
          token = x;
          more = r.0;
          parts = y.parts;
          here = r.1;
          begun = (y.value, t.0, y.good, y.whole ∙ ap (λ (z : List T). y.seen ++ z) t.1 ∙ sym (append_assoc y.seen (x ∷ []) t.0));
          shallow = λ a ms tail m g parts k h. (both_at y r.0 r.1 a ms tail m g parts k h).0;
          deep = λ a ms tail m g parts k h. (both_at y r.0 r.1 a ms tail m g parts k h).1;
        }
      where
        both_at : (y : Faults l (p limit) ts Deep rest) (more : List T) → rest ≡ y.place.0 ∷ more → (a : A) (ms tail : List (T × ℕ)) (m : T × ℕ) → good a ≡ true → marks a ≡ ms ++ m ∷ tail → tokens ms ≡ y.seen → m.0 ≡ y.place.0
            → IsShallow limit ms × (limit < m.1)
        both_at y more r a ms tail m g parts k h =
            let spelled : tokens (marks a) ≡ y.seen ++ (m.0 ∷ tokens tail) = ap tokens parts ∙ tokens-append ms (m ∷ tail) ∙ ap (λ (z : List T). z ++ (m.0 ∷ tokens tail)) k in
            let here : rest ≡ m.0 ∷ more = r ∙ ap (λ (z : T). z ∷ more) (sym h) in
            let o = deep_outcome a (first_deep limit (marks a)) (m.0 ∷ tokens tail) (at_value Deep ts rest y m.0 more (tokens tail) a here g spelled) in
            deep_here limit ms tail m (sym (ap (first_deep limit) parts) ∙ o)

    -- ---- the places exclude each other

    begun_less : (s : List T) (x : T) (w : List T) → IsBegun marks good (s ++ x ∷ w) → IsBegun marks good (s ++ x ∷ [])
    begun_less s x w b = (b.0, w ++ b.1, b.2, b.3 ∙ append_assoc s (x ∷ w) b.1 ∙ sym (append_assoc s (x ∷ []) (w ++ b.1)))

    -- a tree that begins with tokens of which one is too deep
    deep_inside : (ts rest : List T) (d : IsDeepAt limit marks good ts rest) (a : A) (w more : List T) → good a ≡ true → tokens (marks a) ≡ (d.seen ++ d.token ∷ w) ++ more
        → ((ms tail : List (T × ℕ)) → marks a ≡ ms ++ tail → tokens ms ≡ d.seen ++ d.token ∷ w → IsShallow limit ms) → ⊥
    deep_inside ts rest d a w more g e shallow =
        let c = cut (marks a) (d.seen ++ d.token ∷ w) more e in
        let c2 = cut c.before d.seen (d.token ∷ w) c.before_is in
        at c c2 c2.behind c2.parts c2.behind_is (shallow c.before c.behind c.parts c.before_is)
      where
        at : (c : Cut (marks a) (d.seen ++ d.token ∷ w) more) (c2 : Cut c.before d.seen (d.token ∷ w)) (behind : List (T × ℕ)) → c.before ≡ c2.before ++ behind → tokens behind ≡ d.token ∷ w → IsShallow limit c.before → ⊥
        at c c2 [] h k sh = cc
        at c c2 (m ∷ ms) h k sh =
            let whole : marks a ≡ c2.before ++ m ∷ (ms ++ c.behind) = c.parts ∙ ap (λ (z : List (T × ℕ)). z ++ c.behind) h ∙ append_assoc c2.before (m ∷ ms) c.behind in
            let over = d.deep a c2.before (ms ++ c.behind) m g whole c2.before_is (tail_same m.0 d.token (tokens ms) w k).0 in
            let P : List (T × ℕ) → Type 0 = λ z. IsShallow limit z in
            let under = shallow_at limit c2.before ms m (subst P h sh) in
            omega (arith, over, under)

    -- no token is unexpected and a lesser one too deep, nor the other way round
    never_both : (ts rest rest2 : List T) → IsUnexpectedAt limit marks good ts rest → IsDeepAt limit marks good ts rest2 → ⊥
    never_both ts rest rest2 u d =
        elim (split u.seen rest d.seen rest2 (sym u.parts ∙ d.parts)) [
          | inl h ↦ u.none d.token d.more (h.1 ∙ d.here) (subst (λ (z : List T). IsBegun marks good (z ++ d.token ∷ [])) (sym h.0) d.begun)
          | inr (inl h) ↦ u.none h.0 (h.1 ++ rest2) h.3 (begun_less u.seen h.0 (h.1 ++ d.token ∷ []) (subst (λ (z : List T). IsBegun marks good z) (ap (λ (z : List T). z ++ d.token ∷ []) h.2 ∙ append_assoc u.seen (h.0 ∷ h.1) (d.token ∷ [])) d.begun))
          | inr (inr h) ↦ longer h.0 h.1 h.2 h.3
        ]
      where
        longer : (x : T) (w : List T) → u.seen ≡ d.seen ++ x ∷ w → rest2 ≡ x ∷ (w ++ rest) → ⊥
        longer x w e k =
            let same : x ≡ d.token = (tail_same x d.token (w ++ rest) d.more (sym k ∙ d.here)).0 in
            let seen : u.seen ≡ d.seen ++ d.token ∷ w = e ∙ ap (λ (z : T). d.seen ++ z ∷ w) same in
            deep_inside ts rest2 d u.begun.0 w u.begun.1 u.begun.2 (u.begun.3 ∙ ap (λ (z : List T). z ++ u.begun.1) seen) (λ ms tail parts t. u.shallow u.begun.0 ms tail u.begun.2 parts (t ∙ sym seen))

    unexpected_once : (ts rest rest2 : List T) → IsUnexpectedAt limit marks good ts rest → IsUnexpectedAt limit marks good ts rest2 → rest ≡ rest2
    unexpected_once ts rest rest2 u v =
        elim (split u.seen rest v.seen rest2 (sym u.parts ∙ v.parts)) [
          | inl h ↦ h.1
          | inr (inl h) ↦ absurd (u.none h.0 (h.1 ++ rest2) h.3 (begun_less u.seen h.0 h.1 (subst (λ (z : List T). IsBegun marks good z) h.2 v.begun)))
          | inr (inr h) ↦ absurd (v.none h.0 (h.1 ++ rest) h.3 (begun_less v.seen h.0 h.1 (subst (λ (z : List T). IsBegun marks good z) h.2 u.begun)))
        ]

    deep_longer : (ts rest rest2 : List T) (d : IsDeepAt limit marks good ts rest) (e : IsDeepAt limit marks good ts rest2) (x : T) (w : List T) → e.seen ≡ d.seen ++ x ∷ w → rest ≡ x ∷ (w ++ rest2) → ⊥
    deep_longer ts rest rest2 d e x w k h =
        let same : x ≡ d.token = (tail_same x d.token (w ++ rest2) d.more (sym h ∙ d.here)).0 in
        let seen : e.seen ≡ d.seen ++ d.token ∷ w = k ∙ ap (λ (z : T). d.seen ++ z ∷ w) same in
        let b = e.begun in
        let all : tokens (marks b.0) ≡ e.seen ++ (e.token ∷ b.1) = b.3 ∙ append_assoc e.seen (e.token ∷ []) b.1 in
        deep_inside ts rest d b.0 w (e.token ∷ b.1) b.2 (all ∙ ap (λ (z : List T). z ++ (e.token ∷ b.1)) seen) (λ ms tail parts t. shallow_here b.0 b.1 b.2 all ms tail parts (t ∙ sym seen))
      where
        shallow_here : (a : A) (more : List T) → good a ≡ true → tokens (marks a) ≡ e.seen ++ (e.token ∷ more) → (ms tail : List (T × ℕ)) → marks a ≡ ms ++ tail → tokens ms ≡ e.seen → IsShallow limit ms
        shallow_here a more g all ms [] parts t = absurd (let n = ap size (sym all ∙ ap tokens (parts ∙ append-nil ms) ∙ t) in let b = size_longer e.seen e.token more in omega (arith, n, b))
          where
            size_longer : (xs : List T) (x : T) (ys : List T) → suc (size xs) ≤ size (xs ++ x ∷ ys)
            size_longer [] x ys = omega arith
            size_longer (y ∷ xs) x ys = let h = size_longer xs x ys in omega (arith, h)
        shallow_here a more g all ms (m ∷ tail) parts t =
            let two : e.seen ++ (m.0 ∷ tokens tail) ≡ e.seen ++ (e.token ∷ more) = ap (λ (z : List T). z ++ (m.0 ∷ tokens tail)) (sym t) ∙ sym (tokens-append ms (m ∷ tail)) ∙ sym (ap tokens parts) ∙ all in
            e.shallow a ms tail m g parts t (tail_same m.0 e.token (tokens tail) more (behind_same e.seen _ _ two)).0
          where
            behind_same : (xs ys zs : List T) → xs ++ ys ≡ xs ++ zs → ys ≡ zs
            behind_same [] ys zs h = h
            behind_same (x ∷ xs) ys zs h = behind_same xs ys zs (tail_same x x (xs ++ ys) (xs ++ zs) h).1

    deep_once : (ts rest rest2 : List T) → IsDeepAt limit marks good ts rest → IsDeepAt limit marks good ts rest2 → rest ≡ rest2
    deep_once ts rest rest2 d e =
        elim (split d.seen rest e.seen rest2 (sym d.parts ∙ e.parts)) [
          | inl h ↦ h.1
          | inr (inl h) ↦ absurd (deep_longer ts rest rest2 d e h.0 h.1 h.2 h.3)
          | inr (inr h) ↦ absurd (deep_longer ts rest2 rest e d h.0 h.1 h.2 h.3)
        ]

    -- a whole tree is no place of a fault
    never_read_unexpected : (ts rest : List T) (a : A) → IsRead limit marks good ts a → IsUnexpectedAt limit marks good ts rest → ⊥
    never_read_unexpected ts [] a r u = u.part refl a r.derived (sym r.spelled)
    never_read_unexpected ts (x ∷ more) a r u = u.none x more refl (a, more, r.derived, sym r.spelled ∙ u.parts ∙ sym (append_assoc u.seen (x ∷ []) more))

    never_read_deep : (ts rest : List T) (a : A) → IsRead limit marks good ts a → IsDeepAt limit marks good ts rest → ⊥
    never_read_deep ts rest a r d =
        let all : tokens (marks a) ≡ (d.seen ++ d.token ∷ []) ++ d.more = sym r.spelled ∙ d.parts ∙ ap (λ (z : List T). d.seen ++ z) d.here ∙ sym (append_assoc d.seen (d.token ∷ []) d.more) in
        deep_inside ts rest d a [] d.more r.derived all (λ ms tail parts t. shallow_first limit ms tail (let P : List (T × ℕ) → Type 0 = λ z. IsShallow limit z in subst P parts r.shallow))

    stops_unexpected_at : (ts rest : List T) → IsUnexpectedAt limit marks good ts rest → (o : Out T A) → p limit ts ≡ o → o ≡ Stop Unexpected rest
    stops_unexpected_at ts rest u (Got a r) e = absurd (never_read_unexpected ts rest a (found ts a r e).1 u)
    stops_unexpected_at ts rest u (Stop Unexpected r) e = ap (λ (z : List T). stop_in T A Unexpected z) (unexpected_once ts r rest (unexpected ts r e) u)
    stops_unexpected_at ts rest u (Stop Deep r) e = absurd (never_both ts rest r u (too_deep ts r e))

    stops_deep_at : (ts rest : List T) → IsDeepAt limit marks good ts rest → (o : Out T A) → p limit ts ≡ o → o ≡ Stop Deep rest
    stops_deep_at ts rest d (Got a r) e = absurd (never_read_deep ts rest a (found ts a r e).1 d)
    stops_deep_at ts rest d (Stop Unexpected r) e = absurd (never_both ts r rest (unexpected ts r e) d)
    stops_deep_at ts rest d (Stop Deep r) e = ap (λ (z : List T). stop_in T A Deep z) (deep_once ts r rest (too_deep ts r e) d)

    pub reads_exactly : ReadsExactly limit marks good (p limit)
    reads_exactly = record {
      found = found;
      finds = finds;
      unexpected = unexpected;
      stops_unexpected = λ ts rest u. stops_unexpected_at ts rest u (p limit ts) refl;
      deep = too_deep;
      stops_deep = λ ts rest d. stops_deep_at ts rest d (p limit ts) refl;
    }
