-- Statements (6.8 of ISO/IEC 9899:2011): their trees, the tokens of each, and how deep each token stands.
use Rattle.std.specs.Prelude.{ℕ, suc, Bool, true, false, not, ◌&&◌, List, [], ◌∷◌, ◌++◌, Option}
use Rattle.std.specs.List.{list_all}
use Rattle.cfix_base.specs.declared.Spot.{Spot}
use Rattle.c_grammar.specs.declared.word.Word.TheVariants as w
use Rattle.c_grammar.specs.declared.sign.Sign.TheVariants as s
use Rattle.c_grammar.specs.Marks.{each, maybe}
use Rattle.c_grammar.specs.Token.{word, sign, Mark}
use Rattle.c_grammar.specs.Op.{Op, op_marks, Ops, ops_marks, more_ops_marks}
use Rattle.c_grammar.specs.Simple.{Value, is_value, value_marks, Plain, is_plain, plain_marks, Simple, is_simple, simple_marks}
use Rattle.c_grammar.specs.Decl.{Decl, is_decl, decl_marks, LoopInt, is_loop_int, loop_int_marks}
use Rattle.c_grammar.specs.Cond.{Cond, is_cond, cond_marks}

-- "break" | "continue" | "return" [ "NULL" ]
pub data Bare : Type 0 where
  Break : Spot → Bare
  Continue : Spot → Bare
  Return : Spot → Bare
  ReturnNull : Spot → Spot → Bare

abbrev pub bare_marks : ℕ → Bare → List Mark
bare_marks d (Break at) = (word w.Break at, d) ∷ []
bare_marks d (Continue at) = (word w.Continue at, d) ∷ []
bare_marks d (Return at) = (word w.Return at, d) ∷ []
bare_marks d (ReturnNull at null) = (word w.Return at, d) ∷ ((word w.Null null, d) ∷ [])

-- bare ";" | "return" ( expr | call ) ";" | "{" op ";" ops bare ";" "}"
-- | "{" "int" "cfix_value" "=" ( expr | call ) ";" op ";" ops "return" "cfix_value" ";" "}"
pub data Jump : Type 0 where
  BareJump : Bare → Spot → Jump
  ReturnValue : Spot → Value → Spot → Jump
  BareBlock : Spot → Op → Spot → Ops → Bare → Spot → Spot → Jump
  ValueBlock : Spot → Spot → Spot → Spot → Value → Spot → Op → Spot → Ops → Spot → Spot → Spot → Spot → Jump

abbrev pub is_jump : Jump → Bool
is_jump (BareJump b end) = true
is_jump (ReturnValue at v end) = is_value v
is_jump (BareBlock before op end ops b end2 after) = true
is_jump (ValueBlock before int name set v end op end2 ops return name2 end3 after) = is_value v

-- a jump block counts for the tokens in it
abbrev pub jump_marks : ℕ → Jump → List Mark
jump_marks d (BareJump b end) = bare_marks d b ++ (sign s.Semicolon end, d) ∷ []
jump_marks d (ReturnValue at v end) = (word w.Return at, d) ∷ (value_marks d v ++ (sign s.Semicolon end, d) ∷ [])
jump_marks d (BareBlock before op end ops b end2 after) =
    (sign s.OpenBrace before, suc d) ∷ (op_marks (suc d) op ++ ((sign s.Semicolon end, suc d) ∷ (ops_marks (suc d) ops ++ (bare_marks (suc d) b ++ ((sign s.Semicolon end2, suc d) ∷ ((sign s.CloseBrace after, suc d) ∷ []))))))
jump_marks d (ValueBlock before int name set v end op end2 ops return name2 end3 after) =
    (sign s.OpenBrace before, suc d) ∷ ((word w.Int int, suc d) ∷ ((word w.Value name, suc d) ∷ ((sign s.Assign set, suc d) ∷ (value_marks (suc d) v ++ ((sign s.Semicolon end, suc d)
    ∷ (op_marks (suc d) op ++ ((sign s.Semicolon end2, suc d) ∷ (ops_marks (suc d) ops
    ++ ((word w.Return return, suc d) ∷ ((word w.Value name2, suc d) ∷ ((sign s.Semicolon end3, suc d) ∷ ((sign s.CloseBrace after, suc d) ∷ []))))))))))))

-- "int" fvar { "," fvar } | plain
pub data First : Type 0 where
  FirstInts : Spot → LoopInt → List (Spot × LoopInt) → First
  FirstPlain : Plain → First

abbrev pub is_first : First → Bool
is_first (FirstInts at x more) = is_loop_int x && list_all (λ y. is_loop_int y.1) more
is_first (FirstPlain p) = is_plain p

abbrev pub first_marks : ℕ → First → List Mark
first_marks d (FirstInts at x more) = (word w.Int at, d) ∷ (loop_int_marks d x ++ each (λ y. (sign s.Comma y.0, d) ∷ loop_int_marks d y.1) more)
first_marks d (FirstPlain p) = plain_marks d p

-- plain { "," op }
pub data LoopStep : Type 0 where
  LoopStepOf : Plain → List (Spot × Op) → LoopStep

abbrev pub is_loop_step : LoopStep → Bool
is_loop_step (LoopStepOf p ops) = is_plain p

abbrev pub loop_step_marks : ℕ → LoopStep → List Mark
loop_step_marks d (LoopStepOf p ops) = plain_marks d p ++ more_ops_marks d ops

-- stmt  = block | ";" | simple ";" ops | jump | "if" "(" cond ")" stmt [ "else" stmt ] | "while" "(" cond ")" stmt
--       | "for" "(" [ first ] ";" [ cond ] ";" [ plain { "," op } ] ")" stmt
-- block = "{" { item } "}"
-- item  = decl ";" ops | stmt
mutual
  pub data Stmt : Type 0 where
    Block : Spot → Items → Spot → Stmt
    Nothing : Spot → Stmt
    Simply : Simple → Spot → Ops → Stmt
    Jumps : Jump → Stmt
    If : Spot → Spot → Cond → Spot → Stmt → Else → Stmt
    While : Spot → Spot → Cond → Spot → Stmt → Stmt
    For : Spot → Spot → Option First → Spot → Option Cond → Spot → Option LoopStep → Spot → Stmt → Stmt

  pub data Else : Type 0 where
    NoElse : Else
    ElseDo : Spot → Stmt → Else

  pub data Items : Type 0 where
    NoItems : Items
    AndItem : Item → Items → Items

  pub data Item : Type 0 where
    Declares : Decl → Spot → Ops → Item
    Does : Stmt → Item

-- the statement ends with an `if` that could still take an `else`
abbrev mutual
  pub is_open : Stmt → Bool
  is_open (Block before items after) = false
  is_open (Nothing end) = false
  is_open (Simply simple end ops) = false
  is_open (Jumps jump) = false
  is_open (If at before c after st e) = is_open_else e
  is_open (While at before c after st) = is_open st
  is_open (For at before first end c end2 step after st) = is_open st

  pub is_open_else : Else → Bool
  is_open_else NoElse = true
  is_open_else (ElseDo at st) = is_open st

abbrev pub has_else : Else → Bool
has_else NoElse = false
has_else (ElseDo at st) = true

-- the parts are derived, and each `else` belongs to the nearest `if` (6.8.4.1 of ISO/IEC 9899:2011)
abbrev mutual
  pub is_stmt : Stmt → Bool
  is_stmt (Block before items after) = are_items items
  is_stmt (Nothing end) = true
  is_stmt (Simply simple end ops) = is_simple simple
  is_stmt (Jumps jump) = is_jump jump
  is_stmt (If at before c after st e) = is_cond c && (is_stmt st && (is_else e && not (has_else e && is_open st)))
  is_stmt (While at before c after st) = is_cond c && is_stmt st
  is_stmt (For at before first end c end2 step after st) = maybe true is_first first && (maybe true is_cond c && (maybe true is_loop_step step && is_stmt st))

  pub is_else : Else → Bool
  is_else NoElse = true
  is_else (ElseDo at st) = is_stmt st

  pub are_items : Items → Bool
  are_items NoItems = true
  are_items (AndItem i more) = is_item i && are_items more

  pub is_item : Item → Bool
  is_item (Declares d end ops) = is_decl d
  is_item (Does st) = is_stmt st

-- the tokens of a statement that stands in d constructs; every `for` counts two
abbrev mutual
  pub stmt_marks : ℕ → Stmt → List Mark
  stmt_marks d (Block before items after) = (sign s.OpenBrace before, suc d) ∷ (items_marks (suc d) items ++ (sign s.CloseBrace after, suc d) ∷ [])
  stmt_marks d (Nothing end) = (sign s.Semicolon end, d) ∷ []
  stmt_marks d (Simply simple end ops) = simple_marks d simple ++ ((sign s.Semicolon end, d) ∷ ops_marks d ops)
  stmt_marks d (Jumps jump) = jump_marks d jump
  stmt_marks d (If at before c after st e) =
      (word w.If at, suc d) ∷ ((sign s.OpenParen before, suc d) ∷ (cond_marks (suc d) c ++ ((sign s.CloseParen after, suc d) ∷ (stmt_marks (suc d) st ++ else_marks (suc d) e))))
  stmt_marks d (While at before c after st) =
      (word w.While at, suc d) ∷ ((sign s.OpenParen before, suc d) ∷ (cond_marks (suc d) c ++ ((sign s.CloseParen after, suc d) ∷ stmt_marks (suc d) st)))
  stmt_marks d (For at before first end c end2 step after st) =
      (word w.For at, suc (suc d)) ∷ ((sign s.OpenParen before, suc (suc d)) ∷ (maybe [] (first_marks (suc (suc d))) first ++ ((sign s.Semicolon end, suc (suc d)) ∷ (maybe [] (cond_marks (suc (suc d))) c
      ++ ((sign s.Semicolon end2, suc (suc d)) ∷ (maybe [] (loop_step_marks (suc (suc d))) step ++ ((sign s.CloseParen after, suc (suc d)) ∷ stmt_marks (suc (suc d)) st)))))))

  pub else_marks : ℕ → Else → List Mark
  else_marks d NoElse = []
  else_marks d (ElseDo at st) = (word w.Else at, d) ∷ stmt_marks d st

  pub items_marks : ℕ → Items → List Mark
  items_marks d NoItems = []
  items_marks d (AndItem i more) = item_marks d i ++ items_marks d more

  pub item_marks : ℕ → Item → List Mark
  item_marks d (Declares decl end ops) = decl_marks d decl ++ ((sign s.Semicolon end, d) ∷ ops_marks d ops)
  item_marks d (Does st) = stmt_marks d st
