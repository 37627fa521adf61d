-- What the laws of a reader say of a whole text.
use Rattle.std.proofs.Common.{◌≡◌, ℕ, Bool, true, false, List, [], ◌∷◌, ◌++◌, Option, Some, None, refl, sym, ap, subst, ◌∙◌, inl, inr, ◌⊎◌}
use Rattle.std.proofs.lemmas.List.{append-nil}
use Rattle.c_reading.specs.Reader.{Fault, Unexpected, Out, Got, Stop, Lang, toks, deep, outcome, ended, whole}
use Rattle.c_grammar.specs.Marks.{head}
use Rattle.c_reading.proofs.Reader.{Reads, Faults, IsReader, Got-inj}

abbrev pub is_end : {T : Type 0} → Option T → Bool
is_end None = true
is_end (Some x) = false

pub ended_got : {T A : Type 0} (o : Out T A) (a : A) (rest : List T) → ended o ≡ Got a rest → (o ≡ Got a []) × (rest ≡ [])
ended_got {T} {A} (Got b []) a rest e = let i = Got-inj b a [] rest e in (ap (λ (z : A). Got z []) i.0, sym i.1)
ended_got (Got b (x ∷ r)) a rest e = absurd cc
ended_got (Stop f r) a rest e = absurd cc

module _ {T A : Type 0} (limit : ℕ) (l : Lang T A) (p : List T → Out T A) (rp : IsReader limit l p) (stops_end : (a : A) → l.good a ≡ true → l.stops a None ≡ true) where
  abbrev pub l_whole : Lang T A
  l_whole = record { marks = l.marks; good = l.good; stops = λ _ h. is_end h }

  ended_stop : (o : Out T A) (f : Fault) (rest : List T) → ended o ≡ Stop f rest
      → (o ≡ Stop f rest) ⊎ ((a : A) × (x : T) × (r : List T) × (o ≡ Got a rest) × (rest ≡ x ∷ r) × (Unexpected ≡ f))
  ended_stop (Got b []) f rest e = absurd cc
  ended_stop (Got b (x ∷ r)) f rest e = let i : x ∷ r ≡ rest = cc in inr (b, x, r, ap (λ (z : List T). Got b z) i, sym i, cc)
  ended_stop (Stop g r) f rest e = inl cc

  ended_more : (a : A) (r r' : List T) (x : T) → head r' ≡ Some x → ended (Got a r') ≡ Stop Unexpected r'
  ended_more a r [] x h = absurd cc
  ended_more a r (y ∷ r') x h = refl

  whole_sound : (ts : List T) (a : A) (rest : List T) → whole p ts ≡ Got a rest → Reads limit l_whole (whole p) ts a rest
  whole_sound ts a rest e =
      let n = ended_got (p ts) a rest e in
      let x = rp.sound ts a [] n.0 in
      record {
        whole = rw n.1 x.whole;
        good = x.good;
        level = x.level;
        again = λ r h. let nil : r ≡ [] = nil_of r (h ∙ ap head n.1) in let g = x.again [] refl in rw (nil, g) refl;
      }
    where
      nil_of : (r : List T) → head r ≡ None → r ≡ []
      nil_of [] h = refl
      nil_of (y ∷ r) h = absurd cc

  whole_fault : (ts : List T) (f : Fault) (rest : List T) → whole p ts ≡ Stop f rest → Faults l_whole (whole p) ts f rest
  whole_fault ts f rest e =
      elim (ended_stop (p ts) f rest e) [
        | inl e1 ↦ let y = rp.fault ts f rest e1 in
            record {
              seen = y.seen;
              parts = y.parts;
              value = y.value;
              suffix = y.suffix;
              place = y.place;
              whole = y.whole;
              good = y.good;
              same = λ r k. ap ended (y.same r k);
            }
        | inr n ↦ let x = rp.sound ts n.0 rest n.3 in
            subst (λ (g : Fault). Faults l_whole (whole p) ts g rest) n.5
            (record {
              seen = toks l n.0;
              parts = x.whole;
              value = n.0;
              suffix = [];
              place = tt;
              whole = sym (append-nil (toks l n.0));
              good = x.good;
              same = λ r k. ap ended (x.again r k) ∙ ended_more n.0 rest r n.1 (k ∙ ap head n.4);
            })
      ]

  whole_complete : (a : A) (rest : List T) → l.good a ≡ true → is_end (head rest) ≡ true → whole p (toks l a ++ rest) ≡ outcome a (deep limit l a) rest
  whole_complete a [] g h = ap ended (rp.complete a [] g (stops_end a g)) ∙ ended_outcome (deep limit l a)
    where
      ended_outcome : (d : Option (List T)) → ended (outcome a d []) ≡ outcome a d []
      ended_outcome None = refl
      ended_outcome (Some s) = refl
  whole_complete a (x ∷ r) g h = absurd cc

  pub whole_reader : IsReader limit l_whole (whole p)
  whole_reader = record {
    sound = whole_sound;
    complete = whole_complete;
    fault = whole_fault;
    fixed = λ a b h k ga gb sa sb da db. rp.fixed a b None None ga gb (stops_end a ga) (stops_end b gb) da db;
  }
