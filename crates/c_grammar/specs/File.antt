-- Files: includes, defines, global variables, prototypes and functions.
use Rattle.std.specs.Prelude.{ℕ, eqb, ltb, Bool, true, false, not, ◌&&◌, List, [], ◌∷◌, ◌++◌, Option, Some, None, codes}
use Rattle.std.specs.List.{list_all}
use Rattle.std.specs.Str.{bytes_eq}
use Rattle.cfix_base.specs.declared.Spot.{Spot}
use Rattle.c_grammar.specs.declared.word.Word.{Word}
use Rattle.c_grammar.specs.declared.word.Word.TheVariants as w
use Rattle.c_grammar.specs.declared.sign.Sign.TheVariants as s
use Rattle.c_grammar.specs.Marks.{each, head, tokens}
use Rattle.c_grammar.specs.Token.{Kind, IsName, IsSign, Token, Ident, Numeral, Text, ident, numeral, quoted, word, sign, Mark}
use Rattle.c_grammar.specs.Op.{Ops, ops_marks}
use Rattle.c_grammar.specs.Decl.{Globals, globals_marks, Qualifier, qualifiers_marks}
use Rattle.c_grammar.specs.Stmt.{Items, are_items, items_marks}

-- "<" { token } ">" | string (6.10.2 of ISO/IEC 9899:2011)
pub data Header : Type 0 where
  Angled : Spot → List Token → Spot → Header
  Quoted : Text → Header

-- number | "(" number ")"
pub data Replacement : Type 0 where
  Plainly : Numeral → Replacement
  InParens : Spot → Numeral → Spot → Replacement

pub data Return : Type 0 where
  ReturnsInt : Return
  ReturnsVoid : Return

-- "int" [ name ]
pub data Param : Type 0 where
  ParamOf : Spot → Option Ident → Param

-- [ "void" | param { "," param } ]
pub data Params : Type 0 where
  NoParams : Params
  VoidParams : Spot → Params
  SomeParams : Param → List (Spot × Param) → Params

-- [ "static" ] ( "int" | "void" ) name "(" [ "void" | param { "," param } ] ")"
-- | [ "static" ] "void" "*" name "(" "void" "*" [ name ] ")"
pub data Head : Type 0 where
  PlainHead : Option Spot → Return → Spot → Ident → Spot → Params → Spot → Head
  ThreadHead : Option Spot → Spot → Spot → Ident → Spot → Spot → Spot → Option Ident → Spot → Head

-- include | define | globals | head ";" | head "{" ops { item } "}"
pub data Top : Type 0 where
  Include : Spot → Spot → Header → Top
  Define : Spot → Spot → Ident → Replacement → Top
  Variables : List (Qualifier × Spot) → Globals → Spot → Top
  Prototype : Head → Spot → Top
  Function : Head → Spot → Ops → Items → Spot → Top

abbrev pub File : Type 0
File = List Top

abbrev pub return_word : Return → Word
return_word ReturnsInt = w.Int
return_word ReturnsVoid = w.Void

-- `include` and `define` are names
abbrev pub name_token : List ℕ → Spot → Token
name_token text at = record { kind = IsName text; spot = at }

abbrev pub header_marks : Header → List Mark
header_marks (Angled before inside after) = (sign s.Less before, 0) ∷ (each (λ x. (x, 0) ∷ []) inside ++ (sign s.Greater after, 0) ∷ [])
header_marks (Quoted text) = (quoted text, 0) ∷ []

abbrev pub replacement_marks : Replacement → List Mark
replacement_marks (Plainly n) = (numeral n, 0) ∷ []
replacement_marks (InParens before n after) = (sign s.OpenParen before, 0) ∷ ((numeral n, 0) ∷ ((sign s.CloseParen after, 0) ∷ []))

abbrev pub static_marks : Option Spot → List Mark
static_marks None = []
static_marks (Some at) = (word w.Static at, 0) ∷ []

abbrev pub name_marks : Option Ident → List Mark
name_marks None = []
name_marks (Some x) = (ident x, 0) ∷ []

abbrev pub param_marks : Param → List Mark
param_marks (ParamOf at name) = (word w.Int at, 0) ∷ name_marks name

abbrev pub params_marks : Params → List Mark
params_marks NoParams = []
params_marks (VoidParams at) = (word w.Void at, 0) ∷ []
params_marks (SomeParams p more) = param_marks p ++ each (λ x. (sign s.Comma x.0, 0) ∷ param_marks x.1) more

abbrev pub head_marks : Head → List Mark
head_marks (PlainHead static return at name before params after) =
    static_marks static ++ ((word (return_word return) at, 0) ∷ ((ident name, 0) ∷ ((sign s.OpenParen before, 0) ∷ (params_marks params ++ (sign s.CloseParen after, 0) ∷ []))))
head_marks (ThreadHead static at star name before void star2 param after) =
    static_marks static ++ ((word w.Void at, 0) ∷ ((sign s.Star star, 0) ∷ ((ident name, 0) ∷ ((sign s.OpenParen before, 0) ∷ ((word w.Void void, 0) ∷ ((sign s.Star star2, 0) ∷ (name_marks param ++ (sign s.CloseParen after, 0) ∷ [])))))))

-- a function's own body counts for nothing
abbrev pub top_marks : Top → List Mark
top_marks (Include at name header) = (sign s.Hash at, 0) ∷ ((name_token (codes "include") name, 0) ∷ header_marks header)
top_marks (Define at name defined value) = (sign s.Hash at, 0) ∷ ((name_token (codes "define") name, 0) ∷ ((ident defined, 0) ∷ replacement_marks value))
top_marks (Variables qualifiers globals end) = qualifiers_marks 0 qualifiers ++ (globals_marks 0 globals ++ (sign s.Semicolon end, 0) ∷ [])
top_marks (Prototype head end) = head_marks head ++ (sign s.Semicolon end, 0) ∷ []
top_marks (Function head before ops items after) = head_marks head ++ ((sign s.OpenBrace before, 0) ∷ (ops_marks 0 ops ++ (items_marks 0 items ++ (sign s.CloseBrace after, 0) ∷ [])))

-- the tokens of a file, each with its depth
abbrev pub file_marks : File → List Mark
file_marks = each top_marks

-- the tokens of a file
abbrev pub file_tokens : File → List Token
file_tokens f = tokens (file_marks f)

abbrev pub is_greater_kind : Kind → Bool
is_greater_kind (IsSign s.Greater) = true
is_greater_kind _ = false

abbrev pub is_greater : Token → Bool
is_greater t = is_greater_kind t.kind

abbrev pub stands_on : ℕ → Mark → Bool
stands_on line m = eqb m.0.spot.line line

-- no `>` inside an include, and a string is `cfix.h`
abbrev pub is_header : Header → Bool
is_header (Angled before inside after) = list_all (λ x. not (is_greater x)) inside
is_header (Quoted text) = bytes_eq text.bytes (codes "cfix.h")

-- The parts are derived, each `else` belongs to the nearest `if`, and the tokens of an include or define stand on one line.
abbrev pub is_top : Top → Bool
is_top (Include at name header) = is_header header && list_all (stands_on at.line) (top_marks (Include at name header))
is_top (Define at name defined value) = list_all (stands_on at.line) (top_marks (Define at name defined value))
is_top (Variables qualifiers globals end) = true
is_top (Prototype head end) = true
is_top (Function head before ops items after) = are_items items

-- The line on which an include or define stands: the next token stands on a later one (6.10 of ISO/IEC 9899:2011).
abbrev pub line_of : Top → Option ℕ
line_of (Include at name header) = Some at.line
line_of (Define at name defined value) = Some at.line
line_of _ = None

-- whether the next token, if there is one, stands on a later line than the include or define
abbrev pub is_later : Option ℕ → Option Token → Bool
is_later None h = true
is_later (Some line) None = true
is_later (Some line) (Some t) = ltb line t.spot.line

-- the file keeps the rules of its tree and of its lines
abbrev pub is_file : File → Bool
is_file [] = true
is_file (t ∷ more) = is_top t && (is_later (line_of t) (head (file_tokens more)) && is_file more)
