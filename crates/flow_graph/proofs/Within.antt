-- Control stays in its function: the places of a body lead from and to nodes of that body.
use Rattle.std.proofs.Common.{ℕ, zero, suc, ◌+◌, ◌≤◌, List, [], ◌∷◌, ◌++◌, map, Option, Some, None, sym, subst, arith}
use Rattle.c_prog.specs.declared.stmt.Cond.{Cond}
use Rattle.c_prog.specs.declared.stmt.Jump.{Jump}
use Rattle.c_prog.specs.declared.stmt.Jump.TheVariants.{Break, Continue, Return, ReturnNull, ReturnValue}
use Rattle.c_prog.specs.declared.stmt.Step.{Step}
use Rattle.c_prog.specs.declared.stmt.Stmt.{Stmt}
use Rattle.c_prog.specs.declared.stmt.Stmt.TheViews.{roll-Stmt}
use Rattle.c_prog.specs.declared.stmt.Stmt.TheOpen.{Stmt-F}
use Rattle.c_prog.specs.declared.stmt.Stmt.TheFolds.{fold-roll-Stmt, ind-Stmt, map-Stmt}
use Rattle.c_prog.specs.Nodes.{step_nodes}
use Rattle.flow_graph.specs.declared.around.Around.{Around}
use Rattle.flow_graph.specs.Flow.{Way, Next, Part, flow, flow_level, size_of, parts_of, along, first_of, followed_by, jump_target, in_loop, outermost, if_ways, loop_ways, step_ways}
use Rattle.flow_graph.specs.Within.{IsWithin, AreWithin}

pub within_append : (low high : ℕ) (xs ys : List Way) → AreWithin low high xs → AreWithin low high ys → AreWithin low high (xs ++ ys)
within_append low high [] ys first second = second
within_append low high (x ∷ xs) ys first second = (first.0, first.1, within_append low high xs ys first.2 second)

-- what is around a statement is within
record AroundWithin (low high : ℕ) (around : Around) : Type 0 where
  follow : IsWithin low high around.follow
  on_break : IsWithin low high around.on_break
  on_continue : IsWithin low high around.on_continue

first_within : (low high count start : ℕ) (follow : Next) → low ≤ start → start + count ≤ high → IsWithin low high follow → IsWithin low high (first_of count start follow)
first_within low high zero start follow above below rest = rest
first_within low high (suc count) start follow above below rest = (above, omega (arith, below))

jump_within : (low high : ℕ) (jump : Jump) (around : Around) → AroundWithin low high around → IsWithin low high (jump_target jump around)
jump_within low high Break around within = within.on_break
jump_within low high Continue around within = within.on_continue
jump_within low high Return around within = tt
jump_within low high ReturnNull around within = tt
jump_within low high (ReturnValue value) around within = tt

-- a part whose places lead from and to nodes within, wherever the part stands
abbrev Stays : Part → Type 0
Stays part = (low high start : ℕ) (around : Around) → AroundWithin low high around → low ≤ start → start + part.size ≤ high
    → AreWithin low high (part.ways start around)

abbrev AllStay : List Part → Type 0
AllStay [] = Unit {0}
AllStay (part ∷ parts) = Stays part × AllStay parts

along_within : (parts : List Part) → AllStay parts → (low high start : ℕ) (around : Around) → AroundWithin low high around → low ≤ start
    → start + size_of parts ≤ high → AreWithin low high (along parts start around)
along_within [] stay low high start around within above below = tt
along_within (part ∷ parts) stay low high start around within above below =
    within_append low high _ (along parts (start + part.size) around)
    (stay.0 low high start (followed_by (first_of (size_of parts) (start + part.size) around.follow) around)
    (record {
      follow = first_within low high (size_of parts) (start + part.size) around.follow (omega (arith, above)) (omega (arith, below)) within.follow;
      on_break = within.on_break;
      on_continue = within.on_continue;
    })
    above (omega (arith, below)))
    (along_within parts stay.1 low high (start + part.size) around within (omega (arith, above)) (omega (arith, below)))

if_within : (cond : Cond) (as_true as_false : List Part) → AllStay as_true → AllStay as_false → (low high start : ℕ) (around : Around)
    → AroundWithin low high around → low ≤ start → start + (1 + size_of as_true + size_of as_false) ≤ high
    → AreWithin low high (if_ways cond as_true as_false start around)
if_within cond as_true as_false stay_true stay_false low high start around within above below =
    let here : IsWithin low high (Some start) = (above, omega (arith, below)) in (
      here,
      first_within low high (size_of as_true) (start + 1) around.follow (omega (arith, above)) (omega (arith, below)) within.follow,
      (
        here,
        first_within low high (size_of as_false) (start + 1 + size_of as_true) around.follow (omega (arith, above)) (omega (arith, below)) within.follow,
        within_append low high (along as_true (start + 1) around) (along as_false (start + 1 + size_of as_true) around)
            (along_within as_true stay_true low high (start + 1) around within (omega (arith, above)) (omega (arith, below)))
            (along_within as_false stay_false low high (start + 1 + size_of as_true) around within (omega (arith, above)) (omega (arith, below))),
      ),
    )

step_within : (step : Option Step) (low high start : ℕ) → low ≤ start → start + 1 + step_nodes step ≤ high → AreWithin low high (step_ways step start)
step_within None low high start above below = tt
step_within (Some step) low high start above below =
    ((omega (arith, above), omega (arith, below)), (above, omega (arith, below)), tt)

loop_within : (cond : Cond) (step : Option Step) (body : List Part) → AllStay body → (low high start : ℕ) (around : Around)
    → AroundWithin low high around → low ≤ start → start + (1 + step_nodes step + size_of body) ≤ high
    → AreWithin low high (loop_ways cond step body start around)
loop_within cond step body stay low high start around within above below =
    let here : IsWithin low high (Some start) = (above, omega (arith, below)) in
    let again : IsWithin low high (Some (start + step_nodes step)) = (omega (arith, above), omega (arith, below)) in (
      here,
      first_within low high (size_of body) (start + 1 + step_nodes step) (Some (start + step_nodes step)) (omega (arith, above)) (omega (arith, below)) again,
      (
        here,
        within.follow,
        within_append low high (step_ways step start) (along body (start + 1 + step_nodes step) (in_loop (start + step_nodes step) around))
            (step_within step low high start above (omega (arith, below)))
            (along_within body stay low high (start + 1 + step_nodes step) (in_loop (start + step_nodes step) around)
            (record { follow = again; on_break = within.follow; on_continue = again }) (omega (arith, above)) (omega (arith, below))),
      ),
    )

-- a child with its proof
abbrev E : Type 0
E = (s : Stmt) × Stays (flow s)

abbrev stmts : List E → List Stmt
stmts es = map (λ e. e.0) es

all_stay : (es : List E) → AllStay (parts_of (stmts es))
all_stay [] = tt
all_stay (e ∷ es) = (e.1, all_stay es)

rolled : (y : Stmt-F Stmt) → Stays (flow_level (map-Stmt Stmt Part flow y)) → Stays (flow (roll-Stmt y))
rolled y stays = subst Stays (sym (fold-roll-Stmt Part flow_level y)) stays

level : (y : Stmt-F E) → Stays (flow (roll-Stmt (map-Stmt E Stmt (λ e. e.0) y)))
level (Stmt-F.Simple act after) =
    rolled (Stmt-F.Simple act after) (λ low high start around within above below. ((above, omega (arith, below)), within.follow, tt))
level (Stmt-F.Jump jump after) =
    rolled (Stmt-F.Jump jump after)
    (λ low high start around within above below. ((above, omega (arith, below)), jump_within low high jump around within, tt))
level (Stmt-F.If cond as_true as_false) =
    rolled (Stmt-F.If cond (stmts as_true) (stmts as_false))
    (if_within cond (parts_of (stmts as_true)) (parts_of (stmts as_false)) (all_stay as_true) (all_stay as_false))
level (Stmt-F.Loop cond step body) =
    rolled (Stmt-F.Loop cond step (stmts body)) (loop_within cond step (parts_of (stmts body)) (all_stay body))
level (Stmt-F.Block body) =
    rolled (Stmt-F.Block (stmts body)) (along_within (parts_of (stmts body)) (all_stay body))

stmt_stays : (s : Stmt) → Stays (flow s)
stmt_stays = ind-Stmt (λ s. Stays (flow s)) (λ x y is. subst (λ z. Stays (flow (roll-Stmt z))) is (level y))

list_stays : (list : List Stmt) → AllStay (parts_of list)
list_stays [] = tt
list_stays (s ∷ list) = (stmt_stays s, list_stays list)

-- the places of a body lead from and to nodes of the body
pub body_within : (list : List Stmt) (first : ℕ) → AreWithin first (first + size_of (parts_of list)) (along (parts_of list) first outermost)
body_within list first =
    along_within (parts_of list) (list_stays list) first (first + size_of (parts_of list)) first outermost
    (record { follow = tt; on_break = tt; on_continue = tt }) (omega arith) (omega arith)
