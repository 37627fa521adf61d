-- Reading statements. In each reader c is how many binary operators a chain may have, and d how many more constructs
-- may be nested.
use Rattle.std.specs.Prelude.{ℕ, zero, suc, Bool, true, false, ◌||◌, List, [], ◌∷◌, Option, Some, None, ◌⊎◌}
use Rattle.std.proofs.Common.{inl, inr}
use Rattle.cfix_base.specs.declared.Spot.{Spot}
use Rattle.c_grammar.specs.declared.word.Word.{Word}
use Rattle.c_grammar.specs.declared.word.Word.TheVariants as w
use Rattle.c_grammar.specs.declared.sign.Sign.{Sign}
use Rattle.c_grammar.specs.declared.sign.Sign.TheVariants as s
use Rattle.c_reading.specs.Reader.{Out, seq, mapped, alt, shut, nothing, maybe_read, many}
use Rattle.c_grammar.specs.Token.{Kind, IsName, IsWord, IsSign, Token}
use Rattle.c_grammar.specs.Op.{Op, Ops}
use Rattle.c_grammar.specs.Simple.{Value, Plain, Simple}
use Rattle.c_grammar.specs.Decl.{LocalInt, Ints, Holds, Hold, Decl, LoopInt}
use Rattle.c_grammar.specs.Cond.{Cond}
use Rattle.c_grammar.specs.Stmt.{Bare, Break, Continue, Return, ReturnNull, Jump, BareJump, ReturnValue, BareBlock, ValueBlock, First, FirstInts, FirstPlain, LoopStep, LoopStepOf, Stmt, Block, Nothing, Simply, Jumps, If, While, For, Else, NoElse, ElseDo, Items, NoItems, AndItem, Item, Declares, Does}
use Rattle.c_reading.specs.Read.{is_word, is_sign, is_name, read_word, read_sign, commas, listed}
use Rattle.c_reading.specs.ReadExpr.{begins_expr}
use Rattle.c_reading.specs.ReadSimple.{is_step, value_at, plain_at, simple_at}
use Rattle.c_reading.specs.ReadOp.{is_verb, read_op, read_ops}
use Rattle.c_reading.specs.ReadDecl.{local_at, decl_at, read_hold, loop_int_at}
use Rattle.c_reading.specs.ReadCond.{cond_at}

abbrev pub is_semicolon : Token → Bool
is_semicolon = is_sign s.Semicolon

abbrev pub read_semicolon : List Token → Out Token Spot
read_semicolon = read_sign s.Semicolon

-- ---- jumps

abbrev pub bare_from : Spot ⊎ (Spot ⊎ (Spot × Option Spot)) → Bare
bare_from (inl at) = Break at
bare_from (inr (inl at)) = Continue at
bare_from (inr (inr (at, None))) = Return at
bare_from (inr (inr (at, Some null))) = ReturnNull at null

abbrev pub read_bare : List Token → Out Token Bare
read_bare = mapped bare_from (alt (is_word w.Break) (read_word w.Break) (alt (is_word w.Continue) (read_word w.Continue) (seq (read_word w.Return) (maybe_read (is_word w.Null) (read_word w.Null)))))

-- what stands behind `return`, with the semicolon
abbrev pub ReturnTail : Type 0
ReturnTail = (Spot × Spot) ⊎ (Spot ⊎ (Value × Spot))

abbrev pub JumpParts : Type 0
JumpParts = (Spot × Spot) ⊎ ((Spot × Spot) ⊎ (Spot × ReturnTail))

abbrev pub jump_from : JumpParts → Jump
jump_from (inl x) = BareJump (Break x.0) x.1
jump_from (inr (inl x)) = BareJump (Continue x.0) x.1
jump_from (inr (inr (at, inl x))) = BareJump (ReturnNull at x.0) x.1
jump_from (inr (inr (at, inr (inl end)))) = BareJump (Return at) end
jump_from (inr (inr (at, inr (inr x)))) = ReturnValue at x.0 x.1

abbrev pub jump_parts_at : (c d : ℕ) → List Token → Out Token JumpParts
jump_parts_at c d = alt (is_word w.Break) (seq (read_word w.Break) read_semicolon) (alt (is_word w.Continue) (seq (read_word w.Continue) read_semicolon)
    (seq (read_word w.Return) (alt (is_word w.Null) (seq (read_word w.Null) read_semicolon) (alt is_semicolon read_semicolon (seq (value_at c d) read_semicolon)))))

-- ---- the parts of a `for`

abbrev pub first_from : (Spot × (LoopInt × List (Spot × LoopInt))) ⊎ Plain → First
first_from (inl x) = FirstInts x.0 x.1.0 x.1.1
first_from (inr p) = FirstPlain p

abbrev pub first_at : (c d : ℕ) → List Token → Out Token First
first_at c d = mapped first_from (alt (is_word w.Int) (seq (read_word w.Int) (listed (loop_int_at c d))) (plain_at c d))

abbrev pub loop_step_from : Plain × List (Spot × Op) → LoopStep
loop_step_from x = LoopStepOf x.0 x.1

abbrev pub loop_step_at : (c d : ℕ) → List Token → Out Token LoopStep
loop_step_at c d = mapped loop_step_from (seq (plain_at c d) (commas read_op))

abbrev pub begins_plain : Token → Bool
begins_plain t = is_name t || is_step t

abbrev pub begins_first : Token → Bool
begins_first t = is_word w.Int t || begins_plain t

-- ---- items

-- the words that an item begins with
abbrev pub begins_item_word : Word → Bool
begins_item_word w.Break = true
begins_item_word w.Continue = true
begins_item_word w.For = true
begins_item_word w.If = true
begins_item_word w.Int = true
begins_item_word w.Return = true
begins_item_word w.While = true
begins_item_word w.Printf = true
begins_item_word w.Scanf = true
begins_item_word w.Thread = true
begins_item_word w.Create = true
begins_item_word w.Join = true
begins_item_word w.Lock = true
begins_item_word w.Unlock = true
begins_item_word w.CondWait = true
begins_item_word w.Signal = true
begins_item_word w.Broadcast = true
begins_item_word _ = false

-- the signs that an item begins with
abbrev pub begins_item_sign : Sign → Bool
begins_item_sign s.OpenBrace = true
begins_item_sign s.Semicolon = true
begins_item_sign s.PlusPlus = true
begins_item_sign s.MinusMinus = true
begins_item_sign _ = false

abbrev pub begins_item_kind : Kind → Bool
begins_item_kind (IsName x) = true
begins_item_kind (IsWord x) = begins_item_word x
begins_item_kind (IsSign x) = begins_item_sign x
begins_item_kind _ = false

-- what an item begins with
abbrev pub begins_item : Token → Bool
begins_item t = begins_item_kind t.kind

abbrev pub begins_decl : Token → Bool
begins_decl t = is_word w.Int t || is_word w.Thread t

abbrev pub item_from : (Decl × (Spot × Ops)) ⊎ Stmt → Item
item_from (inl x) = Declares x.0 x.1.0 x.1.1
item_from (inr st) = Does st

abbrev pub item_with : (c d : ℕ) → (List Token → Out Token Stmt) → List Token → Out Token Item
item_with c d stmt = mapped item_from (alt begins_decl (seq (decl_at c d) (seq read_semicolon read_ops)) stmt)

abbrev pub items_from : List Item → Items
items_from [] = NoItems
items_from (i ∷ more) = AndItem i (items_from more)

abbrev pub items_with : (c d : ℕ) → (List Token → Out Token Stmt) → List Token → Out Token Items
items_with c d stmt = mapped items_from (many begins_item (item_with c d stmt))

-- ---- what stands in braces, from the opening one on

-- op ";" ops bare ";" "}"
abbrev pub BareBlockParts : Type 0
BareBlockParts = Op × (Spot × (Ops × (Bare × (Spot × Spot))))

-- "cfix_value" "=" ( expr | call ) ";" op ";" ops "return" "cfix_value" ";" "}"
abbrev pub ValueBlockParts : Type 0
ValueBlockParts = Spot × (Spot × (Value × (Spot × (Op × (Spot × (Ops × (Spot × (Spot × (Spot × Spot)))))))))

-- lvar { "," lvar } ";" ops { item } "}", behind the `int` of the first item
abbrev pub IntsBlockParts : Type 0
IntsBlockParts = (LocalInt × List (Spot × LocalInt)) × (Spot × (Ops × (Items × Spot)))

-- the first item is no declaration of an `int`
abbrev pub OtherItem : Type 0
OtherItem = ((Spot × (Hold × List (Spot × Hold))) × (Spot × Ops)) ⊎ Stmt

abbrev pub InBraces : Type 0
InBraces = BareBlockParts ⊎ ((Spot × (ValueBlockParts ⊎ IntsBlockParts)) ⊎ (Spot ⊎ (OtherItem × (Items × Spot))))

abbrev pub BraceParts : Type 0
BraceParts = Spot × InBraces

abbrev pub other_item_from : OtherItem → Item
other_item_from (inl x) = Declares (Holds x.0.0 x.0.1.0 x.0.1.1) x.1.0 x.1.1
other_item_from (inr st) = Does st

abbrev pub brace_from : BraceParts → Stmt
brace_from (before, inl x) = Jumps (BareBlock before x.0 x.1.0 x.1.1.0 x.1.1.1.0 x.1.1.1.1.0 x.1.1.1.1.1)
brace_from (before, inr (inl (int, inl x))) =
    Jumps (ValueBlock before int x.0 x.1.0 x.1.1.0 x.1.1.1.0 x.1.1.1.1.0 x.1.1.1.1.1.0 x.1.1.1.1.1.1.0 x.1.1.1.1.1.1.1.0 x.1.1.1.1.1.1.1.1.0 x.1.1.1.1.1.1.1.1.1.0 x.1.1.1.1.1.1.1.1.1.1)
brace_from (before, inr (inl (int, inr x))) = Block before (AndItem (Declares (Ints int x.0.0 x.0.1) x.1.0 x.1.1.0) x.1.1.1.0) x.1.1.1.1
brace_from (before, inr (inr (inl after))) = Block before NoItems after
brace_from (before, inr (inr (inr x))) = Block before (AndItem (other_item_from x.0) x.1.0) x.1.1

abbrev pub read_bare_block : List Token → Out Token BareBlockParts
read_bare_block = seq read_op (seq read_semicolon (seq read_ops (seq read_bare (seq read_semicolon (read_sign s.CloseBrace)))))

abbrev pub value_block_at : (c d : ℕ) → List Token → Out Token ValueBlockParts
value_block_at c d = seq (read_word w.Value) (seq (read_sign s.Assign) (seq (value_at c d) (seq read_semicolon (seq read_op (seq read_semicolon (seq read_ops
    (seq (read_word w.Return) (seq (read_word w.Value) (seq read_semicolon (read_sign s.CloseBrace))))))))))

abbrev pub ints_block_with : (c d : ℕ) → (List Token → Out Token Stmt) → List Token → Out Token IntsBlockParts
ints_block_with c d stmt = seq (listed (local_at c d)) (seq read_semicolon (seq read_ops (seq (items_with c d stmt) (read_sign s.CloseBrace))))

abbrev pub other_item_with : (List Token → Out Token Stmt) → List Token → Out Token OtherItem
other_item_with stmt = alt (is_word w.Thread) (seq (seq (read_word w.Thread) (listed read_hold)) (seq read_semicolon read_ops)) stmt

-- stmt reads a statement inside the braces
abbrev pub brace_with : (c d : ℕ) → (List Token → Out Token Stmt) → List Token → Out Token BraceParts
brace_with c d stmt = seq (read_sign s.OpenBrace) (alt is_verb read_bare_block (alt (is_word w.Int) (seq (read_word w.Int) (alt (is_word w.Value) (value_block_at c d) (ints_block_with c d stmt)))
    (alt (is_sign s.CloseBrace) (read_sign s.CloseBrace) (seq (other_item_with stmt) (seq (items_with c d stmt) (read_sign s.CloseBrace))))))

-- ---- `if`, `while` and `for`

abbrev pub ElseParts : Type 0
ElseParts = (Spot × Stmt) ⊎ Unit {0}

abbrev pub else_from : ElseParts → Else
else_from (inl x) = ElseDo x.0 x.1
else_from (inr u) = NoElse

abbrev pub IfParts : Type 0
IfParts = Spot × (Spot × (Cond × (Spot × (Stmt × ElseParts))))

abbrev pub WhileParts : Type 0
WhileParts = Spot × (Spot × (Cond × (Spot × Stmt)))

abbrev pub ForParts : Type 0
ForParts = Spot × (Spot × (Option First × (Spot × (Option Cond × (Spot × (Option LoopStep × (Spot × Stmt)))))))

abbrev pub is_else : Token → Bool
is_else = is_word w.Else

abbrev pub else_tail_with : (List Token → Out Token Stmt) → List Token → Out Token (Stmt × ElseParts)
else_tail_with stmt = seq stmt (alt is_else (seq (read_word w.Else) stmt) nothing)

abbrev pub if_with : (c d : ℕ) → (List Token → Out Token Stmt) → List Token → Out Token IfParts
if_with c d stmt = seq (read_word w.If) (seq (read_sign s.OpenParen) (seq (cond_at c d) (seq (read_sign s.CloseParen) (else_tail_with stmt))))

abbrev pub while_with : (c d : ℕ) → (List Token → Out Token Stmt) → List Token → Out Token WhileParts
while_with c d stmt = seq (read_word w.While) (seq (read_sign s.OpenParen) (seq (cond_at c d) (seq (read_sign s.CloseParen) stmt)))

abbrev pub for_with : (c d : ℕ) → (List Token → Out Token Stmt) → List Token → Out Token ForParts
for_with c d stmt = seq (read_word w.For) (seq (read_sign s.OpenParen) (seq (maybe_read begins_first (first_at c d)) (seq read_semicolon (seq (maybe_read begins_expr (cond_at c d))
    (seq read_semicolon (seq (maybe_read begins_plain (loop_step_at c d)) (seq (read_sign s.CloseParen) stmt)))))))

-- ---- statements

abbrev pub SimplyParts : Type 0
SimplyParts = Simple × (Spot × Ops)

abbrev pub StmtParts : Type 0
StmtParts = BraceParts ⊎ (IfParts ⊎ (WhileParts ⊎ (ForParts ⊎ (Spot ⊎ (JumpParts ⊎ SimplyParts)))))

abbrev pub if_from : IfParts → Stmt
if_from x = If x.0 x.1.0 x.1.1.0 x.1.1.1.0 x.1.1.1.1.0 (else_from x.1.1.1.1.1)

abbrev pub while_from : WhileParts → Stmt
while_from x = While x.0 x.1.0 x.1.1.0 x.1.1.1.0 x.1.1.1.1

abbrev pub for_from : ForParts → Stmt
for_from x = For x.0 x.1.0 x.1.1.0 x.1.1.1.0 x.1.1.1.1.0 x.1.1.1.1.1.0 x.1.1.1.1.1.1.0 x.1.1.1.1.1.1.1.0 x.1.1.1.1.1.1.1.1

abbrev pub stmt_from : StmtParts → Stmt
stmt_from (inl x) = brace_from x
stmt_from (inr (inl x)) = if_from x
stmt_from (inr (inr (inl x))) = while_from x
stmt_from (inr (inr (inr (inl x)))) = for_from x
stmt_from (inr (inr (inr (inr (inl end))))) = Nothing end
stmt_from (inr (inr (inr (inr (inr (inl j)))))) = Jumps (jump_from j)
stmt_from (inr (inr (inr (inr (inr (inr x)))))) = Simply x.0 x.1.0 x.1.1

abbrev pub begins_jump : Token → Bool
begins_jump t = is_word w.Break t || (is_word w.Continue t || is_word w.Return t)

abbrev pub stmt_with : (c d : ℕ) → (List Token → Out Token BraceParts) → (List Token → Out Token IfParts) → (List Token → Out Token WhileParts) → (List Token → Out Token ForParts) → List Token → Out Token Stmt
stmt_with c d brace choice loop counted = mapped stmt_from (alt (is_sign s.OpenBrace) brace (alt (is_word w.If) choice (alt (is_word w.While) loop (alt (is_word w.For) counted
    (alt is_semicolon read_semicolon (alt begins_jump (jump_parts_at c d) (seq (simple_at c d) (seq read_semicolon read_ops))))))))

unfoldable pub stmt_at : (c d : ℕ) → List Token → Out Token Stmt
stmt_at c zero = stmt_with c zero (shut (is_sign s.OpenBrace)) (shut (is_word w.If)) (shut (is_word w.While)) (shut (is_word w.For))
stmt_at c (suc zero) = stmt_with c (suc zero) (brace_with c zero (stmt_at c zero)) (if_with c zero (stmt_at c zero)) (while_with c zero (stmt_at c zero)) (shut (is_word w.For))
stmt_at c (suc (suc d)) = stmt_with c (suc (suc d)) (brace_with c (suc d) (stmt_at c (suc d))) (if_with c (suc d) (stmt_at c (suc d))) (while_with c (suc d) (stmt_at c (suc d))) (for_with c d (stmt_at c d))
