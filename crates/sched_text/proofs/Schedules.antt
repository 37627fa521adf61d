-- What a text is as a schedule fixes the answer.
use Rattle.std.proofs.Common.{◌≡◌, ℕ, ◌+◌, ◌<◌, ◌≤◌, ◌^◌, ◌/◌, ◌%◌, ◌⊎◌, inl, inr, List, [], ◌∷◌, ◌++◌, length, map, take, drop, get_or, refl, sym, ap, subst, ◌∙◌, arith, Result, Ok, Err, IfOk, IfErr, nat_eq, false}
use Rattle.std.specs.List.{All, prefix_len}
use Rattle.std.proofs.lemmas.List.{append-nil, length-append, length-map, map-append, append_assoc, drop_all}
use Rattle.std.specs.Fmt.{decimal}
use Rattle.std.proofs.lemmas.Fmt.{decimal_step, decimal_digit}
use Rattle.std.proofs.lemmas.List.Elements.{All-head, All-tail, All-append, All-cons, All-nil}
use Rattle.cfix_base.specs.declared.entry.Entry.{Entry}
use Rattle.cfix_base.specs.declared.limits.TheConstants.{MAX_SCHEDULE_ENTRIES}
use Rattle.sched_text.specs.Lines.{lines, is_in_line}
use Rattle.sched_text.specs.Schedules.{entry_line, IsEntry, IsMalformedLine, SpellsSchedule, IsFirstBadLine, HasTooManyLines, ExplainsSchedFault, written}
use Rattle.sched_text.specs.declared.schedule_reader.SchedFault.{SchedFault}
use Rattle.sched_text.specs.declared.schedule_reader.SchedFault.TheVariants.{NoMemory, BadLine, TooMany}
use Rattle.sched_text.proofs.Lines.{lines-line, lines-split}
use Rattle.sched_text.proofs.EntryLines.{entry_line-injective, entry_line-in_line}

-- entries with the same lines are the same
same_entries : (es fs : List Entry) → All IsEntry es → All IsEntry fs → map entry_line es ≡ map entry_line fs → es ≡ fs
same_entries [] [] he hf is = refl
same_entries [] (f ∷ fs) he hf is = cc
same_entries (e ∷ es) [] he hf is = cc
same_entries (e ∷ es) (f ∷ fs) he hf is =
    let heads : entry_line e ≡ entry_line f = cc in
    let tails : map entry_line es ≡ map entry_line fs = cc in
    let first = entry_line-injective e f (All-head IsEntry e es he) (All-head IsEntry f fs hf) heads in
    let more = same_entries es fs (All-tail IsEntry e es he) (All-tail IsEntry f fs hf) tails in
    cc

-- a malformed line stands behind the lines of the entries before it
bad_behind : (es good : List Entry) (bad : List ℕ) (tail more : List (List ℕ)) → All IsEntry es → IsMalformedLine bad
    → map entry_line es ++ tail ≡ map entry_line good ++ bad ∷ more → length es ≤ length good
bad_behind [] good bad tail more he malformed is = omega arith
bad_behind (e ∷ es) [] bad tail more he malformed is =
    let head : bad ≡ entry_line e = cc in
    absurd (malformed e (All-head IsEntry e es he) head)
bad_behind (e ∷ es) (g ∷ good) bad tail more he malformed is =
    let tails : map entry_line es ++ tail ≡ map entry_line good ++ bad ∷ more = cc in
    let ih = bad_behind es good bad tail more (All-tail IsEntry e es he) malformed tails in
    omega arith

lines_len : (good : List Entry) (line : List ℕ) (more : List (List ℕ)) → length (map entry_line good ++ line ∷ more) ≡ length good + 1 + length more
lines_len good line more = simp (length-append, length-map) (omega arith)

behind_all : (text : List ℕ) (es good : List Entry) (line : List ℕ) (more : List (List ℕ)) → lines text ≡ map entry_line es → lines text ≡ map entry_line good ++ line ∷ more → length good < length es
behind_all text es good line more all some = omega (arith, ap length (sym all ∙ some), lines_len good line more, length-map es entry_line)

not_bad : (text : List ℕ) (es : List Entry) (number : ℕ) → SpellsSchedule text es → IsFirstBadLine text number → ⊥
not_bad text es number spells bad =
    let far = behind_all text es bad.good bad.bad bad.more spells.lines bad.lines in
    let near = bad_behind es bad.good bad.bad [] bad.more spells.ranges bad.malformed (append-nil (map entry_line es) ∙ sym spells.lines ∙ bad.lines) in
    omega (arith, far, near)

not_many : (text : List ℕ) (es : List Entry) → SpellsSchedule text es → HasTooManyLines text → ⊥
not_many text es spells many = omega (arith, behind_all text es many.good many.line many.more spells.lines many.lines, spells.few, many.full)

not_both : (text : List ℕ) (number : ℕ) → IsFirstBadLine text number → HasTooManyLines text → ⊥
not_both text number bad many =
    let near = bad_behind many.good bad.good bad.bad (many.line ∷ many.more) bad.more many.ranges bad.malformed (sym many.lines ∙ bad.lines) in
    omega (arith, near, bad.counted, bad.within, many.full)

same_number : (text : List ℕ) (m n : ℕ) → IsFirstBadLine text m → IsFirstBadLine text n → m ≡ n
same_number text m n a b =
    let ab = bad_behind a.good b.good b.bad (a.bad ∷ a.more) b.more a.ranges b.malformed (sym a.lines ∙ b.lines) in
    let ba = bad_behind b.good a.good a.bad (b.bad ∷ b.more) a.more b.ranges a.malformed (sym b.lines ∙ a.lines) in
    omega (arith, ab, ba, a.counted, b.counted)

-- an answer that is explained is the one that the text fixes
module _ (text : List ℕ) where
  pub reads : (r : Result (List Entry) SchedFault) → IfOk r (SpellsSchedule text) → IfErr r (ExplainsSchedFault text)
      → (entries : List Entry) → SpellsSchedule text entries → (r ≡ Ok entries) ⊎ (r ≡ Err NoMemory)
  reads (Ok es) ok refused entries spells = inl (ap Ok (same_entries es entries ok.ranges spells.ranges (sym ok.lines ∙ spells.lines)))
  reads (Err NoMemory) ok refused entries spells = inr refl
  reads (Err (BadLine number)) ok refused entries spells = absurd (not_bad text entries number spells refused)
  reads (Err TooMany) ok refused entries spells = absurd (not_many text entries spells refused)

  pub bad_line : (r : Result (List Entry) SchedFault) → IfOk r (SpellsSchedule text) → IfErr r (ExplainsSchedFault text)
      → (number : ℕ) → IsFirstBadLine text number → (r ≡ Err (BadLine number)) ⊎ (r ≡ Err NoMemory)
  bad_line (Ok es) ok refused number bad = absurd (not_bad text es number ok bad)
  bad_line (Err NoMemory) ok refused number bad = inr refl
  bad_line (Err (BadLine other)) ok refused number bad = inl (ap (λ (n : ℕ). Err (BadLine n)) (same_number text other number refused bad))
  bad_line (Err TooMany) ok refused number bad = absurd (not_both text number bad refused)

  pub too_many : (r : Result (List Entry) SchedFault) → IfOk r (SpellsSchedule text) → IfErr r (ExplainsSchedFault text)
      → HasTooManyLines text → (r ≡ Err TooMany) ⊎ (r ≡ Err NoMemory)
  too_many (Ok es) ok refused many = absurd (not_many text es ok many)
  too_many (Err NoMemory) ok refused many = inr refl
  too_many (Err (BadLine number)) ok refused many = absurd (not_both text number refused many)
  too_many (Err TooMany) ok refused many = inl refl

-- the lines of a written text
pub lines-written : (es : List Entry) → All IsEntry es → lines (written es) ≡ map entry_line es
lines-written [] h = refl
lines-written (e ∷ es) h =
    lines-line (entry_line e) (written es) (entry_line-in_line e (All-head IsEntry e es h))
    ∙ ap (λ (z : List (List ℕ)). entry_line e ∷ z) (lines-written es (All-tail IsEntry e es h))

-- ---- the turns of the reader

pub some_bytes : (rest : List ℕ) → nat_eq (length rest) 0 ≡ false → 0 < length rest
some_bytes [] h = cc
some_bytes (byte ∷ rest) h = omega arith

front_of : (rest : List ℕ) → 0 < length rest → lines rest ≡ take (prefix_len is_in_line rest) rest ∷ lines (drop (prefix_len is_in_line rest + 1) rest)
front_of [] h = absurd (omega arith)
front_of (byte ∷ rest) h = lines-split byte rest

module _ (text : List ℕ) (entries : List Entry) (rest : List ℕ) (ranges : All IsEntry entries) (read : lines text ≡ map entry_line entries ++ lines rest) (some : 0 < length rest) where
  parted : lines text ≡ map entry_line entries ++ take (prefix_len is_in_line rest) rest ∷ lines (drop (prefix_len is_in_line rest + 1) rest)
  parted = read ∙ ap (λ (z : List (List ℕ)). map entry_line entries ++ z) (front_of rest some)

  pub next_line : (entry : Entry) → take (prefix_len is_in_line rest) rest ≡ entry_line entry
      → lines text ≡ map entry_line (entries ++ entry ∷ []) ++ lines (drop (prefix_len is_in_line rest + 1) rest)
  next_line entry is =
      parted ∙ ap (λ (z : List ℕ). map entry_line entries ++ z ∷ lines (drop (prefix_len is_in_line rest + 1) rest)) is
      ∙ sym (append_assoc (map entry_line entries) (entry_line entry ∷ []) (lines (drop (prefix_len is_in_line rest + 1) rest)))
      ∙ ap (λ (z : List (List ℕ)). z ++ lines (drop (prefix_len is_in_line rest + 1) rest)) (sym (map-append entry_line entries (entry ∷ [])))

  pub first_bad : (number : ℕ) → number ≡ length entries + 1 → number ≤ MAX_SCHEDULE_ENTRIES → IsMalformedLine (take (prefix_len is_in_line rest) rest) → IsFirstBadLine text number
  first_bad number counted within malformed = record {
    good = entries;
    bad = take (prefix_len is_in_line rest) rest;
    more = lines (drop (prefix_len is_in_line rest + 1) rest);
    ranges = ranges;
    lines = parted;
    malformed = malformed;
    counted = counted;
    within = within;
  }

  pub one_more : length entries ≡ MAX_SCHEDULE_ENTRIES → HasTooManyLines text
  one_more full = record {
    good = entries;
    line = take (prefix_len is_in_line rest) rest;
    more = lines (drop (prefix_len is_in_line rest + 1) rest);
    ranges = ranges;
    lines = parted;
    full = full;
  }

pub ranges-push : (entries : List Entry) (entry : Entry) → All IsEntry entries → IsEntry entry → All IsEntry (entries ++ entry ∷ [])
ranges-push entries entry h one = All-append IsEntry entries (entry ∷ []) h (All-cons IsEntry entry [] one (All-nil IsEntry))

-- ---- the turns of the writer

-- all of the entries are written
pub spells_written : (text : List ℕ) (items es : List Entry) (i : ℕ) → length items ≤ i → text ++ written (drop i items) ≡ written items
    → ((k : ℕ) (d : Entry) → k < i → IsEntry (get_or items k d)) → items ≡ es → length es ≤ MAX_SCHEDULE_ENTRIES → SpellsSchedule text es
spells_written text items es i through wrote each same few =
    let ranges : All IsEntry items = λ k d h. each k d (omega arith) in
    let whole : text ≡ written items = sym (append-nil text) ∙ ap (λ (z : List Entry). text ++ written z) (sym (drop_all i items through)) ∙ wrote in
    let spells : length items ≤ MAX_SCHEDULE_ENTRIES → SpellsSchedule text items = λ small. record {
      ranges = ranges;
      lines = ap lines whole ∙ lines-written items ranges;
      few = small;
    } in
    subst (λ (z : List Entry). length z ≤ MAX_SCHEDULE_ENTRIES → SpellsSchedule text z) same spells few

pub one_digit : (text front : List ℕ) (n : ℕ) → n < 10 → front ≡ text → front ++ (48 + n % 10) ∷ [] ≡ text ++ decimal n
one_digit text front n h is =
    let same : n % 10 ≡ n = omega arith in
    rw (is, same) (ap (λ (z : List ℕ). text ++ z) (sym (decimal_digit n h)))

pub last_digit : (text front : List ℕ) (n : ℕ) → 10 ≤ n → n < 2 ^ 32 → front ≡ text ++ decimal (n / 10) → front ++ (48 + n % 10) ∷ [] ≡ text ++ decimal n
last_digit text front n low high is =
    ap (λ (z : List ℕ). z ++ (48 + n % 10) ∷ []) is ∙ append_assoc text (decimal (n / 10)) ((48 + n % 10) ∷ [])
    ∙ ap (λ (z : List ℕ). text ++ z) (sym (decimal_step n low (omega arith)))
