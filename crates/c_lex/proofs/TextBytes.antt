-- The items of a text are bytes, so that its tokens are those of a text of bytes.
use Rattle.std.proofs.Common.{◌≡◌, ℕ, suc, ◌≤◌, true, nat_le, List, [], ◌∷◌, get_or, Result, Ok, Err, IfOk, refl, arith}
use Rattle.std.specs.List.{list_all}
use Rattle.std.proofs.lemmas.Bool.Decides.{nat_tests}
use Rattle.c_lex.specs.declared.fault.LexFault.{LexFault}
use Rattle.c_lex.specs.Lexed.{Lexed, IsLexed}
use Rattle.c_lex.specs.Steps.{Comes}
use Rattle.c_lex.proofs.Exact.{found_in, answer_tokens}

pub bytes_fit : (text : List ℕ) → ((place : ℕ) → get_or text place 0 ≤ 255) → list_all (λ byte. nat_le byte 255) text ≡ true
bytes_fit [] fits = refl
bytes_fit (byte ∷ more) fits =
    let here : byte ≤ 255 = fits 0 in
    let first : nat_le byte 255 ≡ true = grind (arith, nat_tests) in
    rw first (bytes_fit more (λ place. fits (suc place)))

pub answer_lexed : (text : List ℕ) (result : Result Lexed LexFault) → Comes result (found_in text) → list_all (λ byte. nat_le byte 255) text ≡ true
    → IfOk result (λ lexed. IsLexed lexed)
answer_lexed text (Ok lexed) c bytes = record { text = text; bytes = bytes; lexes = answer_tokens text (Ok lexed) c }
answer_lexed text (Err fault) c bytes = tt
