-- An accepted text spells a source.
use Rattle.std.proofs.Common.{◌≡◌, ℕ, List, [], ◌∷◌, ◌++◌, None, refl, sym, subst, ap, ◌∙◌, true}
use Rattle.std.specs.List.{list_all}
use Rattle.std.proofs.lemmas.List.{append_assoc}
use Rattle.cfix_base.specs.declared.Spot.{Spot}
use Rattle.c_lex.specs.Pieces.{Piece}
use Rattle.c_lex.specs.Meaning.{Verdict, Between, Counts, Refuses, verdict}
use Rattle.c_lex.specs.Faults.{spot_behind, fault_of, HaveNoFault}
use Rattle.c_names.specs.declared.fault.Fault.{Fault}
use Rattle.c_names.specs.Faults.{is_limit}
use Rattle.c_names.specs.Files.{faults_of}
use Rattle.c_names.specs.Sources.{source_of}
use Rattle.c_names.specs.Texts.{is_known, Spells, Accepts}
use Rattle.c_grammar.specs.Lexical.{tokens_read}

-- a piece without a fault is not refused
known_one : (v : Verdict) (count : ℕ) (spot : Spot) → fault_of v count spot ≡ None → is_known v ≡ true
known_one Between count spot e = refl
known_one (Counts kind) count spot e = refl
known_one (Refuses refusal) count spot e = absurd cc

known_all : (front pieces : List Piece) → HaveNoFault (front ++ pieces) → list_all (λ piece. is_known (verdict piece)) pieces ≡ true
known_all front [] faultless = refl
known_all front (piece ∷ pieces) faultless =
    let more = known_all (front ++ piece ∷ []) pieces (subst HaveNoFault (sym (append_assoc front (piece ∷ []) pieces)) faultless) in
    rw (known_one (verdict piece) _ _ (faultless front piece pieces refl)) more

none_of : (faults : List Fault) → faults ≡ [] → list_all (λ f. is_limit f.kind) faults ≡ true
none_of [] e = refl
none_of (f ∷ faults) e = absurd cc

pub accepted : (text : List ℕ) (a : Accepts text) → Spells text (source_of a.file)
accepted text a = record {
  file = a.file;
  divided = record {
    pieces = a.lexes.pieces;
    division = a.lexes.division;
    known = known_all [] a.lexes.pieces a.lexes.faultless;
    are_tokens = sym a.read.spelled ∙ ap tokens_read a.lexes.tokens;
  };
  derived = a.read.derived;
  faultless = none_of (faults_of (spot_behind text) a.file) a.faultless;
  is_source = refl;
}
