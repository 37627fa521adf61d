use Rattle.std.specs.Prelude.{ℕ, Bool, true, false, not, ◌&&◌, ◌||◌, eqb, List, [], ◌∷◌, codes}
use Rattle.std.specs.List.{list_any, list_all, starts_with}
use Rattle.std.specs.Char.{is_ascii_alphabetic, is_ascii_alphanumeric}
use Rattle.std.specs.Str.{bytes_eq}

-- a letter or `_`, as a name begins (6.4.2.1 of ISO/IEC 9899:2011)
abbrev pub is_name_start : ℕ → Bool
is_name_start byte = is_ascii_alphabetic byte || eqb byte 95

-- a letter, a digit or `_`, as a name goes on
abbrev pub is_name_byte : ℕ → Bool
is_name_byte byte = is_ascii_alphanumeric byte || eqb byte 95

-- what can be a name or a word: a letter or `_`, and then letters, digits and `_`
abbrev pub is_identifier : List ℕ → Bool
is_identifier [] = false
is_identifier (first ∷ rest) = is_name_start first && list_all is_name_byte rest

-- the 44 keywords of C11 (6.4.1 of ISO/IEC 9899:2011)
abbrev pub keywords : List (List ℕ)
keywords = codes "auto" ∷ codes "break" ∷ codes "case" ∷ codes "char" ∷ codes "const" ∷ codes "continue" ∷
    codes "default" ∷ codes "do" ∷ codes "double" ∷ codes "else" ∷ codes "enum" ∷
    codes "extern" ∷ codes "float" ∷ codes "for" ∷ codes "goto" ∷ codes "if" ∷ codes "inline" ∷
    codes "int" ∷ codes "long" ∷ codes "register" ∷ codes "restrict" ∷ codes "return" ∷
    codes "short" ∷ codes "signed" ∷ codes "sizeof" ∷ codes "static" ∷ codes "struct" ∷
    codes "switch" ∷ codes "typedef" ∷ codes "union" ∷ codes "unsigned" ∷ codes "void" ∷
    codes "volatile" ∷ codes "while" ∷ codes "_Alignas" ∷ codes "_Alignof" ∷ codes "_Atomic" ∷
    codes "_Bool" ∷ codes "_Complex" ∷ codes "_Generic" ∷ codes "_Imaginary" ∷
    codes "_Noreturn" ∷ codes "_Static_assert" ∷ codes "_Thread_local" ∷ []

-- the names of the headers and the operations of CFix that are read as words
abbrev pub library_words : List (List ℕ)
library_words = codes "NULL" ∷ codes "printf" ∷ codes "scanf" ∷ codes "pthread_t" ∷ codes "pthread_mutex_t" ∷
    codes "pthread_create" ∷ codes "pthread_join" ∷ codes "pthread_mutex_lock" ∷
    codes "pthread_mutex_unlock" ∷ codes "PTHREAD_MUTEX_INITIALIZER" ∷ codes "pthread_cond_t" ∷
    codes "pthread_cond_wait" ∷ codes "pthread_cond_signal" ∷ codes "pthread_cond_broadcast" ∷
    codes "PTHREAD_COND_INITIALIZER" ∷ codes "cfix_enter" ∷ codes "cfix_leave" ∷
    codes "cfix_wait" ∷ codes "cfix_done" ∷ codes "cfix_first" ∷ codes "cfix_add" ∷
    codes "cfix_value" ∷ []

abbrev pub is_keyword : List ℕ → Bool
is_keyword text = list_any (bytes_eq text) keywords

abbrev pub is_library_word : List ℕ → Bool
is_library_word text = list_any (bytes_eq text) library_words

-- a word, which is never a name
abbrev pub is_word_text : List ℕ → Bool
is_word_text text = is_keyword text || is_library_word text

-- a name: an identifier that is no word
abbrev pub is_name_text : List ℕ → Bool
is_name_text text = is_identifier text && not (is_word_text text)

-- a beginning that no declared name may have
abbrev pub is_reserved_text : List ℕ → Bool
is_reserved_text text =
    starts_with eqb text (codes "cfix_") || starts_with eqb text (codes "CFIX_")
    || starts_with eqb text (codes "pthread_") || starts_with eqb text (codes "PTHREAD_")
