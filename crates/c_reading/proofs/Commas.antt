-- Lists with commas between the items.
use Rattle.std.proofs.Common.{◌≡◌, ℕ, ◌≤◌, Bool, true, false, List, [], ◌∷◌, Option, Some, None, refl, ap, ◌∙◌}
use Rattle.std.specs.List.{list_all}
use Rattle.cfix_base.specs.declared.Spot.{Spot}
use Rattle.c_grammar.specs.declared.sign.Sign.TheVariants as s
use Rattle.c_reading.specs.Reader.{Lang, Out, holds, toks, seq}
use Rattle.c_grammar.specs.Marks.{first}
use Rattle.c_grammar.specs.Token.{Token, sign}
use Rattle.c_reading.specs.Read.{is_sign, read_sign, commas, listed}
use Rattle.c_reading.proofs.Reader.{IsReader, pair, seq_reader}
use Rattle.c_reading.proofs.Many.{items, many_reader}
use Rattle.c_reading.proofs.Token.{only_sign_token, sign_lang, sign_reader}

module _ {A : Type 0} (d : ℕ) (l : Lang Token A) (ends : Option Token → Bool) where
  abbrev pub comma_lang : Lang Token (Spot × A)
  comma_lang = pair (sign_lang s.Comma d) l (λ x h. l.stops x.1 h)

  abbrev pub commas_lang : Lang Token (List (Spot × A))
  commas_lang = items comma_lang ends

  abbrev pub listed_lang : Lang Token (A × List (Spot × A))
  listed_lang = pair l commas_lang (λ _. ends)

  pub list_good_is : (test : A → Bool) → ((a : A) → test a ≡ l.good a) → (xs : List (Spot × A)) → list_all (λ x. test x.1) xs ≡ commas_lang.good xs
  list_good_is test e [] = refl
  list_good_is test e (x ∷ xs) = rw (e x.1, list_good_is test e xs) refl

  module _ (limit : ℕ) (hd : d ≤ limit) (p : List Token → Out Token A) (rp : IsReader limit l p) (a0 : A) (a0_good : l.good a0 ≡ true)
      (stops_comma : (a : A) (at : Spot) → l.good a ≡ true → l.stops a (Some (sign s.Comma at)) ≡ true) (stops_last : (a : A) (h : Option Token) → l.good a ≡ true → ends h ≡ true → l.stops a h ≡ true)
      (no_comma : (h : Option Token) → ends h ≡ true → holds (is_sign s.Comma) h ≡ false) where
    stops_at : (a : A) (h : Option Token) → l.good a ≡ true → holds (is_sign s.Comma) h ≡ true → l.stops a h ≡ true
    stops_at a None g e = absurd cc
    stops_at a (Some x) g e = ap (λ (t : Token). l.stops a (Some t)) (only_sign_token s.Comma x e) ∙ stops_comma a x.spot g

    pub commas_reader : IsReader limit commas_lang (commas p)
    commas_reader = many_reader limit comma_lang (is_sign s.Comma) ends
        (record { begun = λ a h g. refl; ends = no_comma; stops_more = λ x h g e. stops_at x.1 h g e; stops_last = λ x h g e. stops_last x.1 h g e }) (seq (read_sign s.Comma) p)
        (seq_reader limit (sign_lang s.Comma d) l (λ x h. l.stops x.1 h) (read_sign s.Comma) p (sign_reader limit d hd s.Comma) rp (λ a b h g1 g2 e. (refl, e)) a0 a0_good)

    list_fits : (a : A) (more : List (Spot × A)) (h : Option Token) → l.good a ≡ true → commas_lang.good more ≡ true → ends h ≡ true → (l.stops a (first (toks commas_lang more) h) ≡ true) × (ends h ≡ true)
    list_fits a [] h g gs e = (stops_last a h g e, e)
    list_fits a (x ∷ more) h g gs e = (stops_comma a x.0 g, e)

    pub listed_reader : IsReader limit listed_lang (listed p)
    listed_reader = seq_reader limit l commas_lang (λ _. ends) p (commas p) rp commas_reader list_fits [] refl
