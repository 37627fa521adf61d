-- The causes of the stops exclude each other, and exclude success.
use Rattle.std.proofs.Common.{◌≡◌, ◌≤◌, ◌<◌, ◌⊎◌, inl, inr, ℕ, List, length, Option, Some, None, refl, sym, ap, subst, ◌∙◌, arith}
use Rattle.cfix_outside.specs.Faults.{Rose}
use Rattle.cfix_outside.specs.Shelves.{Files, Gives, Passes, IsLonger}
use Rattle.cfix_core.specs.Words.{Asked, patch, show, replay, erase}
use Rattle.cfix_core.specs.NamedFiles.{Contents, Has, HasFile, WasRead, Holds, IsLong, LongFor, file_name, limit_of}
use Rattle.cfix_core.specs.Replay.{IsRun}
use Rattle.cfix_core.specs.declared.failure.Refusal.TheVariants.{NotEnabled}
use Rattle.cfix_core.proofs.Replays.{one_refused_run, texts_run, not_replayed, not_erased, not_refused_run}
use Rattle.cfix_core.specs.Stops.{refusal_status, status_of, line_of}
use Rattle.cfix_core.specs.Answers.{Answered, RefusedIn, AcceptedIn, CutIn, CutBefore, Ends, Left, PutsNothing, NothingPut, Untried, Writes, RefusedFor, AcceptedFor, StillFor, MustFor, Cause, Noted, Accepted, Still, Must, Told, DoneFor, RefusedAs}
use Rattle.cfix_core.specs.declared.failure.Refusal.{Refusal}
use Rattle.cfix_core.specs.declared.stop.NamedFile.{NamedFile}
use Rattle.cfix_core.specs.declared.stop.NamedFile.TheVariants as named
use Rattle.cfix_core.specs.declared.stop.Stop.{Stop}
use Rattle.cfix_core.specs.declared.stop.Stop.TheVariants.{NoMemory, CannotRead, TooLong, CannotWrite, Refused}
use Rattle.cfix_core.proofs.Repair.{not_refused, not_repaired, one_refusal, one_refused_source, not_shown, not_refused_source}

-- ---- the files

-- a file within its limit is not longer
within : (files : Files) (name bytes : List ℕ) (limit : ℕ) → Gives (Some files) name limit bytes → Passes (Some files) name limit → ⊥
within files name bytes limit given passes =
    let P : Option (List ℕ) → Type 0 = λ file. IsLonger file limit in
    let longer : limit < length bytes = subst P given.0 passes in
    let short : length bytes ≤ limit = given.1 in
    absurd (omega arith)

fits : (files : Files) (name : Option (List ℕ)) (limit : ℕ) (bytes : List ℕ) → Has (Some files) limit name bytes
    → IsLong (Some files) limit name → ⊥
fits files None limit bytes has long = long
fits files (Some name) limit bytes has long = within files name bytes limit has long

-- a file has one content
one_given : (files : Files) (name a b : List ℕ) (limit : ℕ) → Gives (Some files) name limit a → Gives (Some files) name limit b → a ≡ b
one_given files name a b limit p q =
    let first : files name ≡ Some a = p.0 in
    let second : files name ≡ Some b = q.0 in
    cc (first, second)

one_content : (files : Files) (name : Option (List ℕ)) (limit : ℕ) (a b : List ℕ) → Has (Some files) limit name a
    → Has (Some files) limit name b → a ≡ b
one_content files None limit a b p q = p ∙ sym q
one_content files (Some name) limit a b p q = one_given files name a b limit p q

-- the bytes of a file, by which file it is
abbrev bytes_of : NamedFile → Contents → List ℕ
bytes_of named.Program contents = contents.program
bytes_of named.Reports contents = contents.reports
bytes_of named.Input contents = contents.input
bytes_of named.Schedule contents = contents.schedule

held : (file : NamedFile) (asked : Asked) (files : Option Files) (contents : Contents) → Holds files asked contents
    → HasFile files asked file (bytes_of file contents)
held named.Program asked files contents h = h.program
held named.Reports asked files contents h = h.reports
held named.Input asked files contents h = h.input
held named.Schedule asked files contents h = h.schedule

long_holds : (file : NamedFile) (asked : Asked) (files : Files) (contents : Contents) → LongFor file asked (Some files)
    → Holds (Some files) asked contents → ⊥
long_holds file asked files contents long holds =
    fits files (file_name file asked) (limit_of file) (bytes_of file contents) (held file asked (Some files) contents holds) long.passes

-- a file that was read is not longer than its limit
read_long : (file : NamedFile) (asked : Asked) (files : Files) → WasRead (Some files) asked file → LongFor file asked (Some files) → ⊥
read_long file asked files read long = fits files (file_name file asked) (limit_of file) read.bytes read.has long.passes

long_once : (file other : NamedFile) (asked : Asked) (files : Files) → LongFor file asked (Some files)
    → LongFor other asked (Some files) → other ≡ file
long_once named.Program named.Program asked files p q = refl
long_once named.Program named.Reports asked files p q = absurd (read_long named.Program asked files q.reached p)
long_once named.Program named.Input asked files p q = absurd (read_long named.Program asked files q.reached.0 p)
long_once named.Program named.Schedule asked files p q = absurd (read_long named.Program asked files q.reached.0 p)
long_once named.Reports named.Program asked files p q = absurd (read_long named.Program asked files p.reached q)
long_once named.Reports named.Reports asked files p q = refl
long_once named.Reports named.Input asked files p q = absurd (read_long named.Reports asked files q.reached.1 p)
long_once named.Reports named.Schedule asked files p q = absurd (read_long named.Reports asked files q.reached.1 p)
long_once named.Input named.Program asked files p q = absurd (read_long named.Program asked files p.reached.0 q)
long_once named.Input named.Reports asked files p q = absurd (read_long named.Reports asked files p.reached.1 q)
long_once named.Input named.Input asked files p q = refl
long_once named.Input named.Schedule asked files p q = absurd (read_long named.Input asked files q.reached.2 p)
long_once named.Schedule named.Program asked files p q = absurd (read_long named.Program asked files p.reached.0 q)
long_once named.Schedule named.Reports asked files p q = absurd (read_long named.Reports asked files p.reached.1 q)
long_once named.Schedule named.Input asked files p q = absurd (read_long named.Input asked files p.reached.2 q)
long_once named.Schedule named.Schedule asked files p q = refl

contents_with : List ℕ → List ℕ → List ℕ → List ℕ → Contents
contents_with program reports input schedule = record { program = program; reports = reports; input = input; schedule = schedule }

same_file : (files : Files) (asked : Asked) (a b : Contents) (file : NamedFile) → Holds (Some files) asked a → Holds (Some files) asked b
    → bytes_of file b ≡ bytes_of file a
same_file files asked a b file p q =
    one_content files (file_name file asked) (limit_of file) (bytes_of file b) (bytes_of file a)
    (held file asked (Some files) b q) (held file asked (Some files) a p)

same_contents : (files : Files) (asked : Asked) (a b : Contents) → Holds (Some files) asked a → Holds (Some files) asked b → b ≡ a
unfolding contents_with
same_contents files asked a b p q =
    ap (λ z. contents_with z b.reports b.input b.schedule) (same_file files asked a b named.Program p q)
    ∙ ap (λ z. contents_with a.program z b.input b.schedule) (same_file files asked a b named.Reports p q)
    ∙ ap (λ z. contents_with a.program a.reports z b.schedule) (same_file files asked a b named.Input p q)
    ∙ ap (contents_with a.program a.reports a.input) (same_file files asked a b named.Schedule p q)

-- what is said of the bytes is said of all bytes that the files hold
moved : (P : Contents → Type 0) (files : Files) (asked : Asked) (a b : Contents) → Holds (Some files) asked a
    → Holds (Some files) asked b → P b → P a
moved P files asked a b here there p = subst P (same_contents files asked a b here there) p

-- ---- each command

one_refused : (asked : Asked) (refusal other : Refusal) (contents : Contents) → RefusedIn asked refusal contents
    → RefusedIn asked other contents → other ≡ refusal
one_refused (patch source reports) refusal other contents p q = one_refusal refusal other contents.program contents.reports p q
one_refused (show source) refusal other contents p q = one_refused_source refusal other contents.program p q
one_refused (replay source input schedule) refusal other contents p q = one_refused_run contents refusal other p q
one_refused (erase source input schedule marks) refusal other contents p q = one_refused_run contents refusal other p q

not_answered : (asked : Asked) (refusal : Refusal) (contents : Contents) (text : List ℕ) → Answered asked contents text
    → RefusedIn asked refusal contents → ⊥
not_answered (patch source reports) refusal contents text p q =
    not_repaired refusal contents.program contents.reports text p q
not_answered (show source) refusal contents text p q = not_shown refusal contents.program text p q
not_answered (replay source input schedule) refusal contents text p q = not_replayed refusal contents text p q
not_answered (erase source input schedule marks) refusal contents text p q = not_erased refusal marks contents text p q

not_accepted : (asked : Asked) (refusal : Refusal) (contents : Contents) → AcceptedIn asked contents
    → RefusedIn asked refusal contents → ⊥
not_accepted (patch source reports) refusal contents p q = not_refused refusal contents.program contents.reports p q
not_accepted (show source) refusal contents p q = not_refused_source refusal contents.program p q
not_accepted (replay source input schedule) refusal contents p q = not_refused_run refusal contents p q
not_accepted (erase source input schedule marks) refusal contents p q = not_refused_run refusal contents p q

-- what was there when a put failed: the text, or for a replay what the three files are read as
abbrev Put : Asked → Contents → Type 0
Put (patch source reports) contents = (text : List ℕ) × Answered (patch source reports) contents text
Put (show source) contents = (text : List ℕ) × Answered (show source) contents text
Put (replay source input schedule) contents = IsRun contents
Put (erase source input schedule marks) contents = (text : List ℕ) × Answered (erase source input schedule marks) contents text

put_by : (asked : Asked) (contents : Contents) (old new : Option (List ℕ)) → CutIn asked contents old new → Put asked contents
put_by (patch source reports) contents old new p = (p.text, p.answered)
put_by (show source) contents old new p = (p.text, p.answered)
put_by (replay source input schedule) contents old new p = p.is_run
put_by (erase source input schedule marks) contents old new p = (p.text, p.answered)

-- what is refused is not put, but for the steps of a replay before an entry that makes none
put_refused : (asked : Asked) (refusal : Refusal) (contents : Contents) → Put asked contents → RefusedIn asked refusal contents
    → (number : ℕ) × (refusal ≡ NotEnabled number)
put_refused (patch source reports) refusal contents p q = absurd (not_answered (patch source reports) refusal contents p.0 p.1 q)
put_refused (show source) refusal contents p q = absurd (not_answered (show source) refusal contents p.0 p.1 q)
put_refused (replay source input schedule) refusal contents p (inl q) = absurd (texts_run contents refusal q p)
put_refused (replay source input schedule) refusal contents p (inr q) = (q.number, q.is_refusal)
put_refused (erase source input schedule marks) refusal contents p q =
    absurd (not_answered (erase source input schedule marks) refusal contents p.0 p.1 q)

-- ---- the stops

refused_once : (refusal other : Refusal) (asked : Asked) (files : Files) → RefusedFor refusal asked (Some files)
    → RefusedFor other asked (Some files) → other ≡ refusal
refused_once refusal other asked files p q =
    one_refused asked refusal other p.contents p.refused
    (moved (RefusedIn asked other) files asked p.contents q.contents p.holds q.holds q.refused)

refused_writes : (refusal : Refusal) (asked : Asked) (files : Files) (text : List ℕ) → RefusedFor refusal asked (Some files)
    → Writes (Some files) asked text → ⊥
refused_writes refusal asked files text p q =
    let P : Contents → Type 0 = λ contents. Answered asked contents text in
    not_answered asked refusal p.contents text (moved P files asked p.contents q.contents p.holds q.holds q.answered) p.refused

refused_accepted : (refusal : Refusal) (asked : Asked) (files : Files) → RefusedFor refusal asked (Some files)
    → AcceptedFor asked files → ⊥
refused_accepted refusal asked files p q =
    not_accepted asked refusal p.contents (moved (AcceptedIn asked) files asked p.contents q.contents p.holds q.holds q.accepted) p.refused

-- the stop is that of a file that is too long
record Long (stop : Stop) (asked : Asked) (files : Files) : Type 0 where
  file : NamedFile
  is : stop ≡ TooLong file
  long : LongFor file asked (Some files)

-- the stop is that of a refusal
record Other (stop : Stop) (asked : Asked) (files : Files) : Type 0 where
  refusal : Refusal
  is : stop ≡ Refused refusal
  why : RefusedFor refusal asked (Some files)

must_kind : (stop : Stop) (asked : Asked) (files : Files) → MustFor stop asked files → Long stop asked files ⊎ Other stop asked files
must_kind NoMemory asked files p = absurd p
must_kind (CannotRead file) asked files p = absurd p
must_kind (TooLong file) asked files p = inl (record { file = file; is = refl; long = p })
must_kind CannotWrite asked files p = absurd p
must_kind (Refused refusal) asked files p = inr (record { refusal = refusal; is = refl; why = p })

-- a put failed
record Cutting (stop : Stop) (asked : Asked) (files : Files) (out_before out_now : ℕ) : Type 0 where
  is : stop ≡ CannotWrite
  contents : Contents
  holds : Holds (Some files) asked contents
  put : Put asked contents
  rose : Rose out_before out_now

cause_kind : (stop : Stop) (asked : Asked) (files : Files) (before now : List ℕ → ℕ) (old new : Option (List ℕ)) (out_before out_now : ℕ)
    → StillFor asked before now → Cause stop asked (Some files) before now old new out_before out_now
    → ((stop ≡ NoMemory) ⊎ Cutting stop asked files out_before out_now) ⊎ (Long stop asked files ⊎ Other stop asked files)
cause_kind NoMemory asked files before now old new out_before out_now still p = inl (inl refl)
cause_kind (CannotRead named.Program) asked files before now old new out_before out_now still p = absurd (still.program p.rose)
cause_kind (CannotRead named.Reports) asked files before now old new out_before out_now still p = absurd (still.reports p.rose)
cause_kind (CannotRead named.Input) asked files before now old new out_before out_now still p = absurd (still.input p.rose)
cause_kind (CannotRead named.Schedule) asked files before now old new out_before out_now still p = absurd (still.schedule p.rose)
cause_kind (TooLong file) asked files before now old new out_before out_now still p = inr (inl (record { file = file; is = refl; long = p }))
cause_kind CannotWrite asked files before now old new out_before out_now still p =
    inl (inr (record {
      is = refl;
      contents = p.0.contents;
      holds = p.0.holds;
      put = put_by asked p.0.contents old new p.0.cut;
      rose = p.1;
    }))
cause_kind (Refused refusal) asked files before now old new out_before out_now still p = inr (inr (record { refusal = refusal; is = refl; why = p }))

-- the same stop of two causes
long_long : (stop other : Stop) (asked : Asked) (files : Files) → Long stop asked files → Long other asked files → other ≡ stop
long_long stop other asked files p q = q.is ∙ ap TooLong (long_once p.file q.file asked files p.long q.long) ∙ sym p.is

long_other : (stop other : Stop) (asked : Asked) (files : Files) → Long stop asked files → Other other asked files → ⊥
long_other stop other asked files p q = long_holds p.file asked files q.why.contents p.long q.why.holds

other_other : (stop other : Stop) (asked : Asked) (files : Files) → Other stop asked files → Other other asked files → other ≡ stop
other_other stop other asked files p q = q.is ∙ ap Refused (refused_once p.refusal q.refusal asked files p.why q.why) ∙ sym p.is

must_writes : (stop : Stop) (asked : Asked) (files : Files) (text : List ℕ) → Long stop asked files ⊎ Other stop asked files
    → Writes (Some files) asked text → ⊥
must_writes stop asked files text (inl p) q = long_holds p.file asked files q.contents p.long q.holds
must_writes stop asked files text (inr p) q = refused_writes p.refusal asked files text p.why q

-- a put failed before the entry that makes no step was come to
record Before (stop other : Stop) : Type 0 where
  number : ℕ
  must : stop ≡ Refused (NotEnabled number)
  is : other ≡ CannotWrite

must_cutting : (stop other : Stop) (asked : Asked) (files : Files) (out_before out_now : ℕ) → Long stop asked files ⊎ Other stop asked files
    → Cutting other asked files out_before out_now → Before stop other
must_cutting stop other asked files out_before out_now (inl p) q = absurd (long_holds p.file asked files q.contents p.long q.holds)
must_cutting stop other asked files out_before out_now (inr p) q =
    let here : RefusedIn asked p.refusal q.contents =
    moved (RefusedIn asked p.refusal) files asked q.contents p.why.contents q.holds p.why.holds p.why.refused in
    let why = put_refused asked p.refusal q.contents q.put here in
    record { number = why.0; must = p.is ∙ ap Refused why.1; is = q.is }

meet : (stop other : Stop) (asked : Asked) (files : Files) (out_before out_now : ℕ) → Long stop asked files ⊎ Other stop asked files
    → ((other ≡ NoMemory) ⊎ Cutting other asked files out_before out_now) ⊎ (Long other asked files ⊎ Other other asked files)
    → (other ≡ NoMemory) ⊎ ((other ≡ stop) ⊎ Before stop other)
meet stop other asked files out_before out_now p (inl (inl e)) = inl e
meet stop other asked files out_before out_now p (inl (inr q)) = inr (inr (must_cutting stop other asked files out_before out_now p q))
meet stop other asked files out_before out_now (inl p) (inr (inl q)) = inr (inl (long_long stop other asked files p q))
meet stop other asked files out_before out_now (inl p) (inr (inr q)) = absurd (long_other stop other asked files p q)
meet stop other asked files out_before out_now (inr p) (inr (inl q)) = absurd (long_other other stop asked files q p)
meet stop other asked files out_before out_now (inr p) (inr (inr q)) = inr (inl (other_other stop other asked files p q))

answered : (stop other : Stop) (asked : Asked) (note_old note_new : Option (List ℕ)) (note_before note_now : ℕ)
    → Noted (line_of asked other) note_old note_new note_before note_now → (other ≡ NoMemory) ⊎ ((other ≡ stop) ⊎ Before stop other)
    → Ends stop (status_of other) (Some asked) note_old note_new note_before note_now
answered stop other asked note_old note_new note_before note_now noted (inl e) = inl (ap status_of e)
answered stop other asked note_old note_new note_before note_now noted (inr (inl e)) =
    let P : Stop → Type 0 = λ s. Noted (line_of asked s) note_old note_new note_before note_now in
    inr (inl (ap status_of e, subst P e noted))
answered stop other asked note_old note_new note_before note_now noted (inr (inr e)) =
    inr (inr (subst (λ s. CutBefore s (status_of other)) (sym e.must) (ap status_of e.is)))

exact_at : (stop other : Stop) (asked : Asked) (files : Option Files) (before now : List ℕ → ℕ) (old new : Option (List ℕ)) (out_before out_now : ℕ)
    (note_old note_new : Option (List ℕ)) (note_before note_now : ℕ)
    → Cause other asked files before now old new out_before out_now → Noted (line_of asked other) note_old note_new note_before note_now
    → Must stop (Some asked) files → StillFor asked before now
    → Ends stop (status_of other) (Some asked) note_old note_new note_before note_now
exact_at stop other asked None before now old new out_before out_now note_old note_new note_before note_now cause noted must still = absurd must
exact_at stop other asked (Some files) before now old new out_before out_now note_old note_new note_before note_now cause noted must still =
    answered stop other asked note_old note_new note_before note_now noted
    (meet stop other asked files out_before out_now (must_kind stop asked files must)
    (cause_kind other asked files before now old new out_before out_now still cause))

-- what must stop the command stops it so
pub exact_stop : (stop other : Stop) (asked : Asked) (words : Option Asked) (files : Option Files) (before now : List ℕ → ℕ)
    (old new : Option (List ℕ)) (out_before out_now : ℕ) (note_old note_new : Option (List ℕ)) (note_before note_now : ℕ)
    → Some asked ≡ words → Cause other asked files before now old new out_before out_now → Noted (line_of asked other) note_old note_new note_before note_now
    → Must stop words files → Still words before now
    → Ends stop (status_of other) words note_old note_new note_before note_now
exact_stop stop other asked words files before now old new out_before out_now note_old note_new note_before note_now e cause noted =
    let P : Option Asked → Type 0 = λ words. Must stop words files → Still words before now
    → Ends stop (status_of other) words note_old note_new note_before note_now in
    subst P e (exact_at stop other asked files before now old new out_before out_now note_old note_new note_before note_now cause noted)

done_at : (stop : Stop) (asked : Asked) (files : Option Files) (old new : Option (List ℕ)) → DoneFor asked files old new
    → Must stop (Some asked) files → ⊥
done_at stop asked None old new done must = must
done_at stop asked (Some files) old new done must = must_writes stop asked files done.text (must_kind stop asked files must) done.writes

-- what is done need not stop
pub exact_done : (stop : Stop) (asked : Asked) (words : Option Asked) (files : Option Files) (old new : Option (List ℕ))
    → Some asked ≡ words → DoneFor asked files old new → Must stop words files → ⊥
exact_done stop asked words files old new e done =
    let P : Option Asked → Type 0 = λ words. Must stop words files → ⊥ in
    subst P e (done_at stop asked files old new done)

accepted_kind : (stop : Stop) (asked : Asked) (files : Files) (out_before out_now : ℕ) → AcceptedFor asked files → (Rose out_before out_now → ⊥)
    → ((stop ≡ NoMemory) ⊎ Cutting stop asked files out_before out_now) ⊎ (Long stop asked files ⊎ Other stop asked files) → stop ≡ NoMemory
accepted_kind stop asked files out_before out_now accepted still (inl (inl e)) = e
accepted_kind stop asked files out_before out_now accepted still (inl (inr q)) = absurd (still q.rose)
accepted_kind stop asked files out_before out_now accepted still (inr (inl q)) =
    absurd (long_holds q.file asked files accepted.contents q.long accepted.holds)
accepted_kind stop asked files out_before out_now accepted still (inr (inr q)) = absurd (refused_accepted q.refusal asked files q.why accepted)

complete_at : (stop : Stop) (asked : Asked) (files : Option Files) (before now : List ℕ → ℕ) (old new : Option (List ℕ)) (out_before out_now : ℕ)
    → Cause stop asked files before now old new out_before out_now → Accepted (Some asked) files → StillFor asked before now
    → (Rose out_before out_now → ⊥) → (status_of stop ≡ 0) ⊎ (status_of stop ≡ 3)
complete_at stop asked None before now old new out_before out_now cause accepted still put = absurd accepted
complete_at stop asked (Some files) before now old new out_before out_now cause accepted still put =
    inr (ap status_of (accepted_kind stop asked files out_before out_now accepted put
    (cause_kind stop asked files before now old new out_before out_now still cause)))

-- nothing else stops it
pub complete : (stop : Stop) (asked : Asked) (words : Option Asked) (files : Option Files) (before now : List ℕ → ℕ)
    (old new : Option (List ℕ)) (out_before out_now : ℕ)
    → Some asked ≡ words → Cause stop asked files before now old new out_before out_now
    → Accepted words files → Still words before now → (Rose out_before out_now → ⊥) → (status_of stop ≡ 0) ⊎ (status_of stop ≡ 3)
complete stop asked words files before now old new out_before out_now e cause =
    let P : Option Asked → Type 0 = λ words. Accepted words files → Still words before now → (Rose out_before out_now → ⊥)
    → (status_of stop ≡ 0) ⊎ (status_of stop ≡ 3) in
    subst P e (complete_at stop asked files before now old new out_before out_now cause)

refused_at : (status : ℕ) (stop : Stop) (asked : Asked) (files : Option Files) (before now : List ℕ → ℕ) (old new : Option (List ℕ))
    (out_before out_now : ℕ) → 5 < status → status_of stop ≡ status → Cause stop asked files before now old new out_before out_now
    → (refusal : Refusal) × (status ≡ refusal_status refusal) × RefusedFor refusal asked files
refused_at status NoMemory asked files before now old new out_before out_now high e cause = absurd (omega (arith, high, e))
refused_at status (CannotRead file) asked files before now old new out_before out_now high e cause = absurd (omega (arith, high, e))
refused_at status (TooLong file) asked files before now old new out_before out_now high e cause = absurd (omega (arith, high, e))
refused_at status CannotWrite asked files before now old new out_before out_now high e cause = absurd (omega (arith, high, e))
refused_at status (Refused refusal) asked files before now old new out_before out_now high e cause = (refusal, sym e, cause)

-- why the files are refused, for a status above 5
pub refused_stop : (status : ℕ) (stop : Stop) (asked : Asked) (words : Option Asked) (files : Option Files) (before now : List ℕ → ℕ)
    (old new : Option (List ℕ)) (out_before out_now : ℕ)
    → Some asked ≡ words → Cause stop asked files before now old new out_before out_now → 5 < status
    → status_of stop ≡ status → RefusedAs status words files
refused_stop status stop asked words files before now old new out_before out_now e cause high is =
    subst (λ words. RefusedAs status words files) e (refused_at status stop asked files before now old new out_before out_now high is cause)

-- ---- what was put

nothing_at : (stop : Stop) (asked : Asked) (files : Option Files) (old new : Option (List ℕ)) → Left stop asked files old new
    → (status_of stop ≡ 5 → ⊥) → PutsNothing (status_of stop) asked → new ≡ old
nothing_at NoMemory (patch source reports) files old new left written none = left
nothing_at NoMemory (show source) files old new left written none = left
nothing_at NoMemory (replay source input schedule) files old new left written none = absurd (none.0 refl)
nothing_at NoMemory (erase source input schedule marks) files old new left written none = left
nothing_at (CannotRead file) asked files old new left written none = left
nothing_at (TooLong file) asked files old new left written none = left
nothing_at CannotWrite asked files old new left written none = absurd (written refl)
nothing_at (Refused refusal) (patch source reports) files old new left written none = left
nothing_at (Refused refusal) (show source) files old new left written none = left
nothing_at (Refused refusal) (erase source input schedule marks) files old new left written none = left
nothing_at (Refused (NotEnabled number)) (replay source input schedule) files old new left written none = absurd (none.1 refl)
nothing_at (Refused _) (replay source input schedule) files old new left written none = left

-- but for a replay, nothing is put before a stop
pub nothing_put : (stop : Stop) (asked : Asked) (words : Option Asked) (files : Option Files) (old new : Option (List ℕ))
    → Some asked ≡ words → Left stop asked files old new → (status_of stop ≡ 5 → ⊥) → NothingPut (status_of stop) words → new ≡ old
nothing_put stop asked words files old new e left written =
    let P : Option Asked → Type 0 = λ words. NothingPut (status_of stop) words → new ≡ old in
    subst P e (nothing_at stop asked files old new left written)

untried_at : (stop : Stop) (asked : Asked) (before now : ℕ) → Untried stop asked before now
    → (status_of stop ≡ 5 → ⊥) → PutsNothing (status_of stop) asked → now ≡ before
untried_at NoMemory (patch source reports) before now left written none = left
untried_at NoMemory (show source) before now left written none = left
untried_at NoMemory (replay source input schedule) before now left written none = absurd (none.0 refl)
untried_at NoMemory (erase source input schedule marks) before now left written none = left
untried_at (CannotRead file) asked before now left written none = left
untried_at (TooLong file) asked before now left written none = left
untried_at CannotWrite asked before now left written none = absurd (written refl)
untried_at (Refused refusal) (patch source reports) before now left written none = left
untried_at (Refused refusal) (show source) before now left written none = left
untried_at (Refused refusal) (erase source input schedule marks) before now left written none = left
untried_at (Refused (NotEnabled number)) (replay source input schedule) before now left written none = absurd (none.1 refl)
untried_at (Refused _) (replay source input schedule) before now left written none = left

-- and no put is tried
pub untried_put : (stop : Stop) (asked : Asked) (words : Option Asked) (before now : ℕ)
    → Some asked ≡ words → Untried stop asked before now → (status_of stop ≡ 5 → ⊥) → NothingPut (status_of stop) words → now ≡ before
untried_put stop asked words before now e left written =
    let P : Option Asked → Type 0 = λ words. NothingPut (status_of stop) words → now ≡ before in
    subst P e (untried_at stop asked before now left written)
