-- Items one after the other that share one budget: what an item costs is gone for those behind it.
use Rattle.std.proofs.Common.{◌≡◌, ℕ, zero, suc, ◌≤◌, ◌+◌, ◌-◌, Bool, true, false, ◌&&◌, List, [], ◌∷◌, ◌++◌, Option, Some, refl, sym, ap, subst, ◌∙◌, inl, inr, arith}
use Rattle.std.proofs.lemmas.Bool.{and_from, and_parts}
use Rattle.std.proofs.lemmas.List.{append-nil}
use Rattle.c_reading.specs.Reader.{Out, first_deep, Lang, seq_dep, holds, shut, nothing, glue, chain}
use Rattle.c_grammar.specs.Marks.{first, tokens}
use Rattle.c_reading.proofs.Reader.{IsReader, Same, map_reader, sum, Chooses, alt_reader, empty, nothing_reader, IsShut, shut_reader, first-append_or, tokens-append, pair_dep, dep_reader}
use Rattle.c_reading.proofs.Many.{unglue}

abbrev pub chain_marks : {T A : Type 0} → (ℕ → A → List (T × ℕ)) → (A → ℕ) → ℕ → List A → List (T × ℕ)
chain_marks marks cost place [] = []
chain_marks marks cost place (a ∷ more) = marks place a ++ chain_marks marks cost (place + suc (cost a)) more

abbrev pub chain_good : {A : Type 0} → (A → Bool) → List A → Bool
chain_good good [] = true
chain_good good (a ∷ more) = good a && chain_good good more

-- marks place says how deep the tokens of an item are that stands at this place of its chain
module _ {T A : Type 0} (limit : ℕ) (marks : ℕ → A → List (T × ℕ)) (good : A → Bool) (stops : A → Option T → Bool) (cost : A → ℕ) (b : T → Bool) (s : Option T → Bool) where
  abbrev item : ℕ → Lang T A
  item place = record { marks = marks place; good = good; stops = stops }

  abbrev pub links : ℕ → Lang T (List A)
  links place = record { marks = chain_marks marks cost place; good = chain_good good; stops = λ _. s }

  pub record IsLink : Type 0 where
    pub begun : (a : A) (place : ℕ) (h : Option T) → good a ≡ true → holds b (first (tokens (marks place a)) h) ≡ true
    pub ends : (h : Option T) → s h ≡ true → holds b h ≡ false
    pub stops_more : (a : A) (h : Option T) → good a ≡ true → holds b h ≡ true → stops a h ≡ true
    pub stops_last : (a : A) (h : Option T) → good a ≡ true → s h ≡ true → stops a h ≡ true
    -- past the limit the first token of an item is too deep
    pub past : (a : A) (place : ℕ) (more : List (T × ℕ)) → limit ≤ place → first_deep limit (marks place a ++ more) ≡ Some (tokens (marks place a ++ more))
    pub each : (x : T) → b x ≡ true → (a : A) × (good a ≡ true) × ((place : ℕ) → (t : List T) × (tokens (marks place a) ≡ x ∷ t))
    pub some : A
    pub some_good : good some ≡ true

  module _ (is : IsLink) (p : ℕ → List T → Out T A) (rp : (place : ℕ) → IsReader limit (item place) (p (limit - place))) where
    first_link : (more : List (T × ℕ)) (a : A) (place : ℕ) (h : Option T) → good a ≡ true → holds b (first (tokens (marks place a ++ more)) h) ≡ true
    first_link more a place h g = rw (tokens-append, first-append_or) (is.begun a place (first (tokens more) h) g)

    link_fits : (a : A) (place : ℕ) (more : List A) (h : Option T) → good a ≡ true → chain_good good more ≡ true → s h ≡ true → (stops a (first (tokens (chain_marks marks cost place more)) h) ≡ true) × (s h ≡ true)
    link_fits a place [] h g gs e = (is.stops_last a h g e, e)
    link_fits a place (c ∷ more) h g gs e = (is.stops_more a _ g (first_link (chain_marks marks cost (place + suc (cost c)) more) c place h (and_parts _ _ gs).0), e)

    abbrev one_more : ℕ → Lang T (A × List A)
    one_more place = pair_dep (item place) (λ a. links (place + suc (cost a))) (λ _. s)

    one_more_shut : (place : ℕ) → limit ≤ place → IsShut limit (one_more place) b
    one_more_shut place h = record {
      begun = λ x h g. first_link (chain_marks marks cost (place + suc (cost x.0)) x.1) x.0 place h (and_parts _ _ g).0;
      deep = λ x g. is.past x.0 place (chain_marks marks cost (place + suc (cost x.0)) x.1) h;
      each = λ x e. let v = is.each x e in let w = v.2 place in ((v.0, []), w.0, ap tokens (append-nil (marks place v.0)) ∙ w.1, and_from _ _ v.1 refl);
      some = (is.some, []);
      some_good = and_from _ _ is.some_good refl;
    }

    chooses : (place : ℕ) → Chooses b (one_more place) empty (λ _. s)
    chooses place = record { one = λ x h g. first_link (chain_marks marks cost (place + suc (cost x.0)) x.1) x.0 place h (and_parts _ _ g).0; other = λ c h g e. is.ends h e; stops_one = λ x h g e. e; stops_other = λ c h g e. refl }

    glued : (place : ℕ) → Same (sum (one_more place) empty (λ _. s)) (links place) glue unglue
    glued place = record {
      back = elim [ [] ↦ λ g. refl | a ∷ more ↦ λ g. refl ];
      good_back = elim [ [] ↦ λ g. refl | a ∷ more ↦ λ g. g ];
      marks = elim [ inl x ↦ λ g. refl | inr u ↦ λ g. refl ];
      good = elim [ inl x ↦ λ g. g | inr u ↦ λ g. refl ];
      stops = λ x h g e. e;
    }

    -- the budget behind an item, as a reader of what stands behind it
    pub chain_reader : (fuel place n : ℕ) → n ≡ limit - place → n ≤ fuel → IsReader limit (links place) (chain cost fuel n b p)
    chain_reader zero place n e h =
        map_reader limit _ _ glue unglue (glued place) _ (alt_reader limit b (one_more place) empty (λ _. s) (shut b) nothing (chooses place) (shut_reader limit (one_more place) b (one_more_shut place (omega (arith, e, h)))) (nothing_reader limit))
    chain_reader (suc fuel) place n e h =
        let here : IsReader limit (item place) (p n) = subst (λ (k : ℕ). IsReader limit (item place) (p k)) (sym e) (rp place) in
        map_reader limit _ _ glue unglue (glued place) _ (alt_reader limit b (one_more place) empty (λ _. s) (seq_dep (p n) (λ a. chain cost fuel (n - suc (cost a)) b p)) nothing (chooses place)
        (dep_reader limit (item place) (λ a. links (place + suc (cost a))) (λ _. s) (p n) (λ a. chain cost fuel (n - suc (cost a)) b p) here
        (λ a. chain_reader fuel (place + suc (cost a)) (n - suc (cost a)) (omega (arith, e)) (omega (arith, h)))
        (λ a more h g gs k. link_fits a (place + suc (cost a)) more h g gs k) (λ _. []) (λ _. refl)) (nothing_reader limit))
