-- Paths of calls, and the longest common front of two.
use Rattle.std.proofs.Common.{◌≡◌, ℕ, zero, suc, ◌≤◌, Bool, true, false, ◌&&◌, List, [], ◌∷◌, length, take, drop, Option, Some, None, if◌then◌else◌, inl, inr, refl, ap, sym, subst, ◌∙◌, arith}
use Rattle.std.proofs.lemmas.Bool.{false≢true}
use Rattle.std.proofs.lemmas.Bool.Decides.{eqb_tells}
use Rattle.std.proofs.lemmas.Option.{none-some}
use Rattle.std.proofs.lemmas.List.Elements.{All-contains_itself}
use Rattle.std.specs.List.{Contains}
use Rattle.cfix_base.specs.declared.access.AccessId.{AccessId}
use Rattle.cfix_base.specs.declared.number.FnId.{FnId}
use Rattle.cfix_base.specs.declared.number.NodeId.{NodeId}
use Rattle.c_prog.specs.Lines.{SourceTree, tree_calls, call_line}
use Rattle.call_graph.specs.Calls.{function_of, callee_of}
use Rattle.call_graph.specs.declared.site.Site.{Site}
use Rattle.report_bind.specs.Fits.{IsCallPath, AreApart}
use Rattle.report_bind.specs.Places.{common, entered, function_or, start_of}
use Rattle.report_bind.specs.Sites.{is_line}
use Rattle.report_bind.specs.Stacks.{nodes_of, is_function, is_call, call_in, function_named, outermost, both, calls_in, stack_with, stack_of}
use Rattle.report_bind.specs.declared.found.Stack.{Stack}
use Rattle.report_bind.proofs.Kept.{kept, some-same}
use Rattle.report_json.specs.declared.report.CallSite.{CallSite}

-- the first node of a path stands in the function in which the path begins
pub start-stands : (sites : List Site) (f : FnId) (calls : List NodeId) (own : NodeId)
    → IsCallPath sites f calls own → function_of sites (start_of calls own) ≡ Some f
start-stands sites f [] own path = path
start-stands sites f (n ∷ rest) own path = path.1

-- what is behind a front of a path is a path, from the function that the front leads to
pub behind-front : (sites : List Site) (f : FnId) (calls : List NodeId) (own : NodeId) (k : ℕ) → k ≤ length calls
    → IsCallPath sites f calls own → IsCallPath sites (entered sites f (take k calls)) (drop k calls) own
behind-front sites f [] own zero below path = path
behind-front sites f [] own (suc k) below path = absurd (omega (arith, below))
behind-front sites f (n ∷ rest) own zero below path = path
behind-front sites f (n ∷ rest) own (suc k) below path =
    let callee : function_or f (callee_of sites n) ≡ path.0 = ap (function_or f) path.2 in
    subst (λ g. IsCallPath sites (entered sites g (take k rest)) (drop k rest) own) (sym callee)
    (behind-front sites path.0 rest own k (omega (arith, below)) path.3)

-- what is known of the longest common front
pub record IsCommon (nodes others : List NodeId) (k : ℕ) : Type 0 where
  pub below : k ≤ length nodes
  pub below_other : k ≤ length others
  pub same : take k nodes ≡ take k others
  pub apart : AreApart (drop k nodes) (drop k others)

pub common-is : (nodes others : List NodeId) → IsCommon nodes others (common nodes others)
common-is [] [] = record { below = omega arith; below_other = omega arith; same = refl; apart = tt }
common-is [] (o ∷ others) = record { below = omega arith; below_other = omega arith; same = refl; apart = tt }
common-is (n ∷ nodes) [] = record { below = omega arith; below_other = omega arith; same = refl; apart = tt }
common-is (n ∷ nodes) (o ∷ others) = elim (eqb_tells n.number o.number) [
  | inl same ↦
      let rest = common-is nodes others in
      let f : ℕ → NodeId = λ x. record { number = x } in
      subst (λ t. IsCommon (n ∷ nodes) (o ∷ others) (if t then suc (common nodes others) else 0)) (sym same.0)
      (record {
        below = omega (arith, rest.below);
        below_other = omega (arith, rest.below_other);
        same = ap (λ x. x ∷ take (common nodes others) nodes) (ap f same.1) ∙ ap (λ xs. o ∷ xs) rest.same;
        apart = rest.apart;
      })
  | inr differs ↦
      subst (λ t. IsCommon (n ∷ nodes) (o ∷ others) (if t then suc (common nodes others) else 0)) (sym differs.0)
      (record { below = omega arith; below_other = omega arith; same = refl; apart = λ is. differs.1 (ap (λ x. x.number) is) })
]

-- What a stack means is a path of calls.

is-function : (found : Option FnId) (f : FnId) → is_function found f ≡ true → found ≡ Some f
is-function None f is = absurd (false≢true is)
is-function (Some g) f is = elim (eqb_tells g.number f.number) [
  | inl same ↦ let h : ℕ → FnId = λ x. record { number = x } in ap (λ x. Some (h x)) same.1
  | inr differs ↦ absurd (false≢true (sym differs.0 ∙ is))
]

and-first : (a b : Bool) → (a && b) ≡ true → a ≡ true
and-first true b is = refl
and-first false b is = absurd (false≢true is)

and-second : (a b : Bool) → (a && b) ≡ true → b ≡ true
and-second true b is = is
and-second false b is = absurd (false≢true is)

-- a call that is found stands in its function and calls the next
record IsFoundCall (source : SourceTree) (outer : FnId) (inner : Option FnId) (node : NodeId) : Type 0 where
  callee : FnId
  is_inner : inner ≡ Some callee
  stands : function_of (nodes_of source) node ≡ Some outer
  calls : callee_of (nodes_of source) node ≡ Some callee

call-found : (source : SourceTree) (call : CallSite) (outer : FnId) (inner : Option FnId) (node : NodeId)
    → call_in source call (Some outer) inner ≡ Some node → IsFoundCall source outer inner node
call-found source call outer None node is = absurd (none-some node is)
call-found source call outer (Some inner) node is =
    let nodes = tree_calls source.tree in
    let test = kept (is_call source outer inner call.line) (Contains nodes) nodes call.nth node (All-contains_itself nodes) is in
    let in_outer = is_function (function_of (nodes_of source) node) outer in
    let to_inner = is_function (callee_of (nodes_of source) node) inner in
    let on_line = is_line (call_line source.lines node) call.line in
    record {
      callee = inner;
      is_inner = refl;
      stands = is-function (function_of (nodes_of source) node) outer (and-first in_outer (to_inner && on_line) test.0);
      calls = is-function (callee_of (nodes_of source) node) inner (and-first to_inner on_line (and-second in_outer (to_inner && on_line) test.0));
    }

record IsBoth (first : Option NodeId) (second : Option (List NodeId)) (calls : List NodeId) : Type 0 where
  node : NodeId
  rest : List NodeId
  is_node : first ≡ Some node
  is_rest : second ≡ Some rest
  is_calls : node ∷ rest ≡ calls

both-found : (first : Option NodeId) (second : Option (List NodeId)) (calls : List NodeId) → both first second ≡ Some calls → IsBoth first second calls
both-found None second calls is = absurd (none-some calls is)
both-found (Some node) None calls is = absurd (none-some calls is)
both-found (Some node) (Some rest) calls is =
    record { node = node; rest = rest; is_node = refl; is_rest = refl; is_calls = some-same (node ∷ rest) calls is }

calls-path : (source : SourceTree) (stack : List CallSite) (own : Option FnId) (node : NodeId) (f : FnId) (calls : List NodeId)
    → function_of (nodes_of source) node ≡ own → outermost source.tree stack own ≡ Some f → calls_in source stack own ≡ Some calls
    → IsCallPath (nodes_of source) f calls node
calls-path source [] own node f calls stands outer is =
    subst (λ cs. IsCallPath (nodes_of source) f cs node) (some-same [] calls is) (stands ∙ outer)
calls-path source (call ∷ rest) own node f calls stands outer is =
    let found =
    both-found (call_in source call (function_named source.tree call.of) (outermost source.tree rest own)) (calls_in source rest own) calls is in
    let first =
    call-found source call f (outermost source.tree rest own) found.node
    (ap (λ o. call_in source call o (outermost source.tree rest own)) (sym outer) ∙ found.is_node) in
    subst (λ cs. IsCallPath (nodes_of source) f cs node) found.is_calls (
      first.callee,
      first.stands,
      first.calls,
      calls-path source rest own node first.callee found.rest stands first.is_inner found.is_rest,
    )

with-found : (outer : Option FnId) (calls : Option (List NodeId)) (stack : Stack) → stack_with outer calls ≡ Some stack
    → (outer ≡ Some stack.function) × (calls ≡ Some stack.calls)
with-found None calls stack is = absurd (none-some stack is)
with-found (Some f) None stack is = absurd (none-some stack is)
with-found (Some f) (Some nodes) stack is =
    let same : record { function = f; calls = nodes } ≡ stack = some-same (record { function = f; calls = nodes }) stack is in
    (ap (λ (s : Stack). Some s.function) same, ap (λ (s : Stack). Some s.calls) same)

pub stack-path : (source : SourceTree) (stack : List CallSite) (access : AccessId) (found : Stack) → stack_of source stack access ≡ Some found
    → IsCallPath (nodes_of source) found.function found.calls access.node
stack-path source stack access found is =
    let own = function_of (nodes_of source) access.node in
    let parts = with-found (outermost source.tree stack own) (calls_in source stack own) found is in
    calls-path source stack own access.node found.function found.calls refl parts.0 parts.1
