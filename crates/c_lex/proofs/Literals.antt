-- The characters of a string, read byte by byte.
use Rattle.std.proofs.Common.{◌≡◌, ℕ, ◌+◌, Bool, true, false, eqb, if◌then◌else◌, List, [], ◌∷◌, ◌++◌, length, length-append, append_assoc, map, refl, sym, ap, ◌∙◌, Some, None, Option, arith}
use Rattle.std.proofs.lemmas.List.{append-nil, map_push}
use Rattle.std.specs.Option.{option_map}
use Rattle.c_lex.specs.declared.literal.Part.{Part}
use Rattle.c_lex.specs.declared.literal.Part.TheVariants.{Close, Backslash, Value, Bad}
use Rattle.c_lex.specs.Bytes.{is_plain, is_escape}
use Rattle.c_lex.specs.Pieces.{Character, Plain, Escape, characters_spelled}
use Rattle.c_lex.specs.Meaning.{character_value}
use Rattle.c_lex.specs.Reading.{part_at, character_at, characters_by, characters_at}

abbrev pub pending : Bool → ℕ
pending true = 1
pending false = 0

-- what was read of a string: its characters, the bytes that they stand for, and how many bytes were passed
pub record Read (after value rest : List ℕ) (escaped : Bool) : Type 0 where
  pub read : List Character
  pub same : characters_at false after ≡ option_map (λ more. read ++ more) (characters_at escaped rest)
  pub meant : value ≡ map character_value read
  pub count : length (characters_spelled read) + pending escaped + length rest ≡ length after

pub characters_spelled-append : (front back : List Character) → characters_spelled (front ++ back) ≡ characters_spelled front ++ characters_spelled back
characters_spelled-append [] back = refl
characters_spelled-append (Plain byte ∷ front) back = ap (λ (z : List ℕ). byte ∷ z) (characters_spelled-append front back)
characters_spelled-append (Escape byte ∷ front) back = ap (λ (z : List ℕ). 92 ∷ byte ∷ z) (characters_spelled-append front back)

pick : (test : Bool) (v w : ℕ) (other : Part) → (if test then Value w else Bad) ≡ Value v → v ≡ w
pick true v w other e = cc
pick false v w other e = cc

pick_plain : (a b test : Bool) (v w : ℕ) → (if a then Close else (if b then Backslash else (if test then Value w else Bad))) ≡ Value v → v ≡ w
pick_plain true b test v w e = cc
pick_plain false true test v w e = cc
pick_plain false false true v w e = cc
pick_plain false false false v w e = cc

value_is : (escaped : Bool) (byte v : ℕ) → part_at escaped byte ≡ Value v → v ≡ character_value (character_at escaped byte)
value_is true byte v e = pick (is_escape byte) v (character_value (Escape byte)) Bad e
value_is false byte v e = pick_plain (eqb byte 34) (eqb byte 92) (is_plain byte) v byte e

no_close : (test : Bool) (w : ℕ) → (if test then Value w else Bad) ≡ Close → false ≡ true
no_close true w e = cc
no_close false w e = cc

no_backslash : (test : Bool) (w : ℕ) → (if test then Value w else Bad) ≡ Backslash → false ≡ true
no_backslash true w e = cc
no_backslash false w e = cc

at_close : (escaped : Bool) (byte : ℕ) → part_at escaped byte ≡ Close → escaped ≡ false
at_close true byte e = sym (no_close (is_escape byte) (character_value (Escape byte)) e)
at_close false byte e = refl

at_backslash : (escaped : Bool) (byte : ℕ) → part_at escaped byte ≡ Backslash → escaped ≡ false
at_backslash true byte e = sym (no_backslash (is_escape byte) (character_value (Escape byte)) e)
at_backslash false byte e = refl

by_part : (escaped : Bool) (byte : ℕ) (rest : List ℕ) (part : Part) → part_at escaped byte ≡ part
    → characters_at escaped (byte ∷ rest) ≡ characters_by part (character_at escaped byte) (λ next. characters_at next rest)
by_part escaped byte rest part e = ap (λ (p : Part). characters_by p (character_at escaped byte) (λ next. characters_at next rest)) e

regroup : (read : List Character) (character : Character) (found : Option (List Character))
    → option_map (λ more. read ++ more) (option_map (λ more. character ∷ more) found) ≡ option_map (λ more. (read ++ character ∷ []) ++ more) found
regroup read character None = refl
regroup read character (Some more) = ap Some (sym (append_assoc read (character ∷ []) more))

spelled_one : (escaped : Bool) (byte : ℕ) → length (characters_spelled (character_at escaped byte ∷ [])) ≡ pending escaped + 1
spelled_one true byte = refl
spelled_one false byte = refl

pub value_turn : (after value rest : List ℕ) (escaped : Bool) (byte v : ℕ) → part_at escaped byte ≡ Value v
    → Read after value (byte ∷ rest) escaped → Read after (value ++ v ∷ []) rest false
value_turn after value rest escaped byte v e r = record {
  read = r.read ++ character_at escaped byte ∷ [];
  same = r.same ∙ ap (option_map (λ more. r.read ++ more)) (by_part escaped byte rest (Value v) e) ∙ regroup r.read (character_at escaped byte) (characters_at false rest);
  meant = rw (value_is escaped byte v e, r.meant) (sym (map_push character_value r.read (character_at escaped byte)));
  count =
      let parts = characters_spelled-append r.read (character_at escaped byte ∷ []) in
      let sizes : length (characters_spelled (r.read ++ character_at escaped byte ∷ [])) ≡ length (characters_spelled r.read) + length (characters_spelled (character_at escaped byte ∷ [])) =
      ap (λ (z : List ℕ). length z) parts ∙ length-append (characters_spelled r.read) _ in
      omega (arith, sizes, spelled_one escaped byte, r.count);
}

pub backslash_turn : (after value rest : List ℕ) (escaped : Bool) (byte : ℕ) → part_at escaped byte ≡ Backslash
    → Read after value (byte ∷ rest) escaped → Read after value rest true
backslash_turn after value rest escaped byte e r = record {
  read = r.read;
  same = r.same ∙ ap (option_map (λ more. r.read ++ more)) (by_part escaped byte rest Backslash e);
  meant = r.meant;
  count = let free = ap pending (at_backslash escaped byte e) in omega (arith, free, r.count);
}

pub close_turn : (after value rest : List ℕ) (escaped : Bool) (byte : ℕ) → part_at escaped byte ≡ Close
    → (r : Read after value (byte ∷ rest) escaped) → characters_at false after ≡ Some r.read
close_turn after value rest escaped byte e r =
    r.same ∙ ap (option_map (λ more. r.read ++ more)) (by_part escaped byte rest Close e) ∙ ap Some (append-nil r.read)

pub close_count : (after value rest : List ℕ) (escaped : Bool) (byte : ℕ) → part_at escaped byte ≡ Close
    → (r : Read after value (byte ∷ rest) escaped) → length (characters_spelled r.read) + 1 + length rest ≡ length after
close_count after value rest escaped byte e r = let free = ap pending (at_close escaped byte e) in omega (arith, free, r.count)

pub bad_turn : (after value rest : List ℕ) (escaped : Bool) (byte : ℕ) → part_at escaped byte ≡ Bad
    → Read after value (byte ∷ rest) escaped → characters_at false after ≡ None
bad_turn after value rest escaped byte e r = r.same ∙ ap (option_map (λ more. r.read ++ more)) (by_part escaped byte rest Bad e)

pub end_turn : (after value rest : List ℕ) (escaped : Bool) → rest ≡ [] → Read after value rest escaped → characters_at false after ≡ None
end_turn after value rest escaped e r = r.same ∙ ap (λ (z : List ℕ). option_map (λ more. r.read ++ more) (characters_at escaped z)) e

option_map-none : (found : Option (List Character)) → option_map (λ more. [] ++ more) found ≡ found
option_map-none None = refl
option_map-none (Some more) = refl

pub first_turn : (after : List ℕ) → Read after [] after false
first_turn after = record { read = []; same = sym (option_map-none (characters_at false after)); meant = refl; count = omega arith }
