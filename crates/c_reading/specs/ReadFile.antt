-- Reading files. In each reader c is how many binary operators a chain may have, and how many constructs may be nested.
use Rattle.std.specs.Prelude.{ℕ, eqb, Bool, true, false, not, ◌&&◌, List, [], ◌∷◌, Option, Some, None, ◌⊎◌, cond, codes}
use Rattle.std.proofs.Common.{inl, inr}
use Rattle.std.specs.Str.{bytes_eq}
use Rattle.cfix_base.specs.declared.Spot.{Spot}
use Rattle.c_grammar.specs.declared.word.Word.TheVariants as w
use Rattle.c_grammar.specs.declared.sign.Sign.{Sign}
use Rattle.c_grammar.specs.declared.sign.Sign.TheVariants as s
use Rattle.c_reading.specs.Reader.{Out, Got, Stop, Unexpected, next, one_of, seq, seq_dep, mapped, alt, maybe_read, many, whole}
use Rattle.c_grammar.specs.Marks.{head}
use Rattle.c_grammar.specs.Token.{Kind, IsName, IsWord, IsSign, Token, Ident, Numeral, Text}
use Rattle.c_grammar.specs.Op.{Ops}
use Rattle.c_grammar.specs.Decl.{Size, Hold, GlobalInt, GlobalMutex, GlobalCond, GlobalInts, GlobalHolds, GlobalMutexes, GlobalConds, Qualifier, Static, Volatile}
use Rattle.c_grammar.specs.Stmt.{Items}
use Rattle.c_grammar.specs.File.{Header, Angled, Quoted, Replacement, Plainly, InParens, ReturnsInt, ReturnsVoid, Param, ParamOf, Params, NoParams, VoidParams, SomeParams, Head, PlainHead, ThreadHead, Top, Include, Define, Variables, Prototype, Function, File, is_greater, line_of, is_later}
use Rattle.c_reading.specs.Read.{is_word, is_sign, is_name, at_sign, ident_of, numeral_of, text_of, read_word, read_sign, read_ident, commas, listed}
use Rattle.c_reading.specs.ReadExpr.{is_some}
use Rattle.c_reading.specs.ReadSimple.{is_paren}
use Rattle.c_reading.specs.ReadOp.{read_ops}
use Rattle.c_reading.specs.ReadDecl.{Declared, global_int_from, read_global_tail, read_global_int, read_global_mutex, read_global_cond, read_hold}
use Rattle.c_reading.specs.ReadStmt.{is_semicolon, read_semicolon, items_with, stmt_at}

-- ---- includes and defines, on one line

-- what by finds in a token of this line
abbrev pub on_line : {A : Type 0} → ℕ → (Token → Option A) → Token → Option A
on_line line by t = cond (eqb t.spot.line line) (by t) None

abbrev pub sign_on : ℕ → Sign → List Token → Out Token Spot
sign_on line x = one_of (on_line line (at_sign x))

abbrev pub is_named_kind : List ℕ → Kind → Bool
is_named_kind text (IsName x) = bytes_eq x text
is_named_kind text _ = false

-- the name with these bytes
abbrev pub is_named : List ℕ → Token → Bool
is_named text t = is_named_kind text t.kind

abbrev pub at_name : List ℕ → Token → Option Spot
at_name text t = cond (is_named text t) (Some t.spot) None

abbrev pub name_on : ℕ → List ℕ → List Token → Out Token Spot
name_on line text = one_of (on_line line (at_name text))

abbrev pub header_text : Option Text → Option Text
header_text None = None
header_text (Some x) = cond (bytes_eq x.bytes (codes "cfix.h")) (Some x) None

abbrev pub header_text_of : Token → Option Text
header_text_of t = header_text (text_of t)

-- a token inside the angle brackets of an include on this line
abbrev pub is_inside : ℕ → Token → Bool
is_inside line t = not (is_greater t) && eqb t.spot.line line

abbrev pub inside_of : ℕ → Token → Option Token
inside_of line t = cond (is_inside line t) (Some t) None

abbrev pub HeaderParts : Type 0
HeaderParts = (Spot × (List Token × Spot)) ⊎ Text

abbrev pub header_from : HeaderParts → Header
header_from (inl x) = Angled x.0 x.1.0 x.1.1
header_from (inr t) = Quoted t

abbrev pub header_on : ℕ → List Token → Out Token HeaderParts
header_on line = alt (is_sign s.Less) (seq (sign_on line s.Less) (seq (many (is_inside line) (one_of (inside_of line))) (sign_on line s.Greater))) (one_of (on_line line header_text_of))

abbrev pub ReplacementParts : Type 0
ReplacementParts = (Spot × (Numeral × Spot)) ⊎ Numeral

abbrev pub replacement_from : ReplacementParts → Replacement
replacement_from (inl x) = InParens x.0 x.1.0 x.1.1
replacement_from (inr n) = Plainly n

abbrev pub replacement_on : ℕ → List Token → Out Token ReplacementParts
replacement_on line = alt is_paren (seq (sign_on line s.OpenParen) (seq (one_of (on_line line numeral_of)) (sign_on line s.CloseParen))) (one_of (on_line line numeral_of))

abbrev pub DirectiveTail : Type 0
DirectiveTail = (Spot × HeaderParts) ⊎ (Spot × (Ident × ReplacementParts))

abbrev pub directive_tail_on : ℕ → List Token → Out Token DirectiveTail
directive_tail_on line = alt (is_named (codes "include")) (seq (name_on line (codes "include")) (header_on line)) (seq (name_on line (codes "define")) (seq (one_of (on_line line ident_of)) (replacement_on line)))

abbrev pub read_directive : List Token → Out Token (Spot × DirectiveTail)
read_directive = seq_dep (read_sign s.Hash) (λ at. directive_tail_on at.line)

-- ---- heads

abbrev pub qualifier_in : Kind → Spot → Option (Qualifier × Spot)
qualifier_in (IsWord w.Static) at = Some (Static, at)
qualifier_in (IsWord w.Volatile) at = Some (Volatile, at)
qualifier_in _ at = None

abbrev pub qualifier_of : Token → Option (Qualifier × Spot)
qualifier_of t = qualifier_in t.kind t.spot

abbrev pub is_qualifier : Token → Bool
is_qualifier t = is_some (qualifier_of t)

abbrev pub Qualifiers : Type 0
Qualifiers = List (Qualifier × Spot)

abbrev pub read_qualifiers : List Token → Out Token Qualifiers
read_qualifiers = many is_qualifier (one_of qualifier_of)

-- before a head stands nothing or one `static`
abbrev pub heads_allowed : Qualifiers → Bool
heads_allowed [] = true
heads_allowed ((Static, at) ∷ []) = true
heads_allowed _ = false

abbrev pub static_of : Qualifiers → Option Spot
static_of ((q, at) ∷ more) = Some at
static_of [] = None

abbrev pub param_from : Spot × Option Ident → Param
param_from x = ParamOf x.0 x.1

abbrev pub read_param : List Token → Out Token Param
read_param = mapped param_from (seq (read_word w.Int) (maybe_read is_name read_ident))

abbrev pub params_from : Spot ⊎ Option (Param × List (Spot × Param)) → Params
params_from (inl at) = VoidParams at
params_from (inr None) = NoParams
params_from (inr (Some x)) = SomeParams x.0 x.1

abbrev pub read_params : List Token → Out Token Params
read_params = mapped params_from (alt (is_word w.Void) (read_word w.Void) (maybe_read (is_word w.Int) (listed read_param)))

-- the semicolon of a prototype, or a body
abbrev pub HeadEnd : Type 0
HeadEnd = Spot ⊎ (Spot × (Ops × (Items × Spot)))

abbrev pub head_end_at : ℕ → List Token → Out Token HeadEnd
head_end_at c = alt is_semicolon read_semicolon (seq (read_sign s.OpenBrace) (seq read_ops (seq (items_with c c (stmt_at c c)) (read_sign s.CloseBrace))))

-- behind the name of a function
abbrev pub HeadTail : Type 0
HeadTail = Spot × (Params × (Spot × HeadEnd))

abbrev pub head_tail_at : ℕ → List Token → Out Token HeadTail
head_tail_at c = seq (read_sign s.OpenParen) (seq read_params (seq (read_sign s.CloseParen) (head_end_at c)))

-- ---- behind the qualifiers

-- behind the name of the first global `int`
abbrev pub GlobalTail : Type 0
GlobalTail = Declared (Option Spot × Size) × (List (Spot × GlobalInt) × Spot)

abbrev pub read_globals_tail : List Token → Out Token GlobalTail
read_globals_tail = seq read_global_tail (seq (commas read_global_int) read_semicolon)

abbrev pub int_tail_at : Bool → ℕ → List Token → Out Token (HeadTail ⊎ GlobalTail)
int_tail_at true c = alt is_paren (head_tail_at c) read_globals_tail
int_tail_at false c = mapped inr read_globals_tail

abbrev pub IntParts : Type 0
IntParts = Spot × (Ident × (HeadTail ⊎ GlobalTail))

abbrev pub HoldParts : Type 0
HoldParts = (Spot × (Hold × List (Spot × Hold))) × Spot

abbrev pub MutexParts : Type 0
MutexParts = (Spot × (GlobalMutex × List (Spot × GlobalMutex))) × Spot

abbrev pub CondParts : Type 0
CondParts = (Spot × (GlobalCond × List (Spot × GlobalCond))) × Spot

abbrev pub ThreadHeadParts : Type 0
ThreadHeadParts = Spot × (Ident × (Spot × (Spot × (Spot × (Option Ident × (Spot × HeadEnd))))))

abbrev pub VoidParts : Type 0
VoidParts = Spot × (ThreadHeadParts ⊎ (Ident × HeadTail))

abbrev pub Body : Type 0
Body = IntParts ⊎ (HoldParts ⊎ (MutexParts ⊎ (VoidParts ⊎ CondParts)))

abbrev pub thread_head_at : ℕ → List Token → Out Token ThreadHeadParts
thread_head_at c = seq (read_sign s.Star) (seq read_ident (seq (read_sign s.OpenParen) (seq (read_word w.Void) (seq (read_sign s.Star) (seq (maybe_read is_name read_ident) (seq (read_sign s.CloseParen) (head_end_at c)))))))

abbrev pub void_at : ℕ → List Token → Out Token VoidParts
void_at c = seq (read_word w.Void) (alt (is_sign s.Star) (thread_head_at c) (seq read_ident (head_tail_at c)))

abbrev pub read_mutexes : List Token → Out Token MutexParts
read_mutexes = seq (seq (read_word w.Mutex) (listed read_global_mutex)) read_semicolon

abbrev pub read_conds : List Token → Out Token CondParts
read_conds = seq (seq (read_word w.Cond) (listed read_global_cond)) read_semicolon

abbrev pub read_holds : List Token → Out Token HoldParts
read_holds = seq (seq (read_word w.Thread) (listed read_hold)) read_semicolon

abbrev pub last_at : Bool → ℕ → List Token → Out Token (VoidParts ⊎ CondParts)
last_at true c = alt (is_word w.Void) (void_at c) read_conds
last_at false c = mapped inr read_conds

abbrev pub body_at : Bool → ℕ → List Token → Out Token Body
body_at heads c = alt (is_word w.Int) (seq (read_word w.Int) (seq read_ident (int_tail_at heads c))) (alt (is_word w.Thread) read_holds (alt (is_word w.Mutex) read_mutexes (last_at heads c)))

-- ---- files

abbrev pub TopParts : Type 0
TopParts = (Spot × DirectiveTail) ⊎ (Qualifiers × Body)

abbrev pub with_end : Head → HeadEnd → Top
with_end head (inl end) = Prototype head end
with_end head (inr x) = Function head x.0 x.1.0 x.1.1.0 x.1.1.1

abbrev pub top_from : TopParts → Top
top_from (inl (at, inl x)) = Include at x.0 (header_from x.1)
top_from (inl (at, inr x)) = Define at x.0 x.1.0 (replacement_from x.1.1)
top_from (inr (q, inl (at, (x, inl t)))) = with_end (PlainHead (static_of q) ReturnsInt at x t.0 t.1.0 t.1.1.0) t.1.1.1
top_from (inr (q, inl (at, (x, inr t)))) = Variables q (GlobalInts at (global_int_from (x, t.0)) t.1.0) t.1.1
top_from (inr (q, inr (inl x))) = Variables q (GlobalHolds x.0.0 x.0.1.0 x.0.1.1) x.1
top_from (inr (q, inr (inr (inl x)))) = Variables q (GlobalMutexes x.0.0 x.0.1.0 x.0.1.1) x.1
top_from (inr (q, inr (inr (inr (inl (at, inl x)))))) = with_end (ThreadHead (static_of q) at x.0 x.1.0 x.1.1.0 x.1.1.1.0 x.1.1.1.1.0 x.1.1.1.1.1.0 x.1.1.1.1.1.1.0) x.1.1.1.1.1.1.1
top_from (inr (q, inr (inr (inr (inl (at, inr (x, t))))))) = with_end (PlainHead (static_of q) ReturnsVoid at x t.0 t.1.0 t.1.1.0) t.1.1.1
top_from (inr (q, inr (inr (inr (inr x))))) = Variables q (GlobalConds x.0.0 x.0.1.0 x.0.1.1) x.1

abbrev pub top_at : ℕ → List Token → Out Token Top
top_at c = mapped top_from (alt (is_sign s.Hash) read_directive (seq_dep read_qualifiers (λ q. body_at (heads_allowed q) c)))

abbrev pub begins_top_kind : Kind → Bool
begins_top_kind (IsSign s.Hash) = true
begins_top_kind (IsWord w.Static) = true
begins_top_kind (IsWord w.Volatile) = true
begins_top_kind (IsWord w.Int) = true
begins_top_kind (IsWord w.Void) = true
begins_top_kind (IsWord w.Thread) = true
begins_top_kind (IsWord w.Mutex) = true
begins_top_kind (IsWord w.Cond) = true
begins_top_kind _ = false

abbrev pub begins_top : Token → Bool
begins_top t = begins_top_kind t.kind

abbrev pub checked_at : Bool → Top → List Token → Out Token Top
checked_at true t r = Got t r
checked_at false t r = Stop Unexpected r

-- the next token stands on a later line than an include or define
abbrev pub checked : (List Token → Out Token Top) → List Token → Out Token Top
checked p ts = next (p ts) (λ t r. checked_at (is_later (line_of t) (head r)) t r)

unfoldable pub read_file : ℕ → List Token → Out Token File
read_file limit = whole (many begins_top (checked (top_at limit)))
