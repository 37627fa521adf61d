-- The node with each number: in which function it stands, what is kept of it, and what control meets behind it.
use Rattle.std.proofs.Common.{◌≡◌, ℕ, zero, suc, ◌+◌, ◌-◌, ◌<◌, ◌≤◌, Bool, false, List, [], ◌∷◌, ◌++◌, map, drop, take, length, slice_get, Option, Some, None, inl, inr, refl, ap, sym, ◌∙◌, subst, arith}
use Rattle.std.proofs.lemmas.Bool.Decides.{leb_tells}
use Rattle.std.proofs.lemmas.Option.{none-some}
use Rattle.cfix_base.specs.declared.place.Place.{Place}
use Rattle.cfix_base.specs.declared.place.Place.TheVariants.{Start, After, True, False}
use Rattle.c_prog.specs.declared.function.Function.{Function}
use Rattle.c_prog.specs.declared.tree.Tree.{Tree}
use Rattle.c_prog.specs.Accesses.{touches}
use Rattle.c_prog.specs.Nodes.{functions_nodes, function_nodes, first_node}
use Rattle.c_prog.specs.Order.{Node, function_order, functions_order, joined}
use Rattle.c_prog.proofs.NodeLaws.{order_of-length}
use Rattle.flow_graph.specs.Flow.{Way, fn_id, parts_of, outermost, body_ways, function_ways, ways_from, next_at}
use Rattle.flow_graph.proofs.Graphs.{nodes_more}
use Rattle.step_state.specs.Parts.{Part}
use Rattle.step_state.specs.Items.{node_part, parts_from, function_parts, at_node, declared}
use Rattle.step_tables.specs.Adds.{variables}
use Rattle.step_tables.specs.Kept.{Kept, kept_of, kept_from, kept_functions}
use Rattle.step_tables.specs.Rows.{IsBehind}
use Rattle.step_tables.proofs.Keeping.{kept-length}
use Rattle.step_tables.proofs.Places.{places, places_from, body-placed}
use Rattle.step_tables.proofs.Finding.{among, next-skip, next-first, among-neither, among-below, among-above}

-- an item of two lists is one of the first, or one of the second
pub in-first : {A : Type 0} (xs ys : List A) (i : ℕ) → i < length xs → slice_get (xs ++ ys) i ≡ slice_get xs i
in-first [] ys i within = absurd (omega (arith, within))
in-first (x ∷ xs) ys zero within = refl
in-first (x ∷ xs) ys (suc i) within = in-first xs ys i (omega (arith, within))

pub in-second : {A : Type 0} (xs ys : List A) (i : ℕ) → slice_get (xs ++ ys) (length xs + i) ≡ slice_get ys i
in-second [] ys i = let same : 0 + i ≡ i = omega arith in ap (slice_get ys) same
in-second (x ∷ xs) ys i =
    let same : suc (length xs) + i ≡ suc (length xs + i) = omega arith in
    ap (slice_get (x ∷ (xs ++ ys))) same ∙ in-second xs ys i

-- what is kept of a node is of its part and of what it is
abbrev pub Matches : ℕ → Option Kept → Option Part → Option Node → Type 0
Matches n None None None = Unit {0}
Matches n (Some k) (Some part) (Some node) =
    (k.node ≡ node) × (k.items ≡ part.items (at_node n)) × (k.operands ≡ part.operands (at_node n)) × (k.variables ≡ variables (touches node))
Matches n _ _ _ = ⊥

pub matches-from : (of n x : ℕ) (nodes : List Node) (i : ℕ)
    → Matches (n + i) (slice_get (kept_from of n x nodes) i) (slice_get (parts_from x nodes) i) (slice_get nodes i)
matches-from of n x [] i = tt
matches-from of n x (node ∷ rest) zero =
    let same : n ≡ n + 0 = omega arith in
    (refl, ap (λ m. (node_part x node).items (at_node m)) same, ap (λ m. (node_part x node).operands (at_node m)) same, refl)
matches-from of n x (node ∷ rest) (suc i) =
    let same : n + 1 + i ≡ n + suc i = omega arith in
    subst (λ m. Matches m (slice_get (kept_from of (n + 1) (x + declared node) rest) i) (slice_get (parts_from (x + declared node) rest) i) (slice_get rest i)) same
    (matches-from of (n + 1) (x + declared node) rest i)

parts-length : (x : ℕ) (nodes : List Node) → length (parts_from x nodes) ≡ length nodes
parts-length x [] = refl
parts-length x (node ∷ rest) = ap suc (parts-length (x + declared node) rest)

pub matches : (of n : ℕ) (fs : List Function) (i : ℕ)
    → Matches (n + i) (slice_get (kept_functions of n fs) i) (slice_get (joined (map function_parts fs)) i) (slice_get (functions_order fs) i)
matches of n [] i = tt
matches of n (f ∷ fs) i =
    let nodes = function_order f in
    let x = length f.params in
    let kepts = kept_from of n x nodes in
    let parts = parts_from x nodes in
    let rest = kept_functions (of + 1) (n + length nodes) fs in
    let ks = kept-length of n x nodes in
    let ps = parts-length x nodes in
    elim (leb_tells (suc i) (length nodes)) [
      | inl below ↦
          subst (λ o. Matches (n + i) o (slice_get (parts ++ joined (map function_parts fs)) i) (slice_get (nodes ++ functions_order fs) i))
          (sym (in-first kepts rest i (omega (arith, below.1, ks))))
          (subst (λ o. Matches (n + i) (slice_get kepts i) o (slice_get (nodes ++ functions_order fs) i))
          (sym (in-first parts (joined (map function_parts fs)) i (omega (arith, below.1, ps))))
          (subst (λ o. Matches (n + i) (slice_get kepts i) (slice_get parts i) o)
          (sym (in-first nodes (functions_order fs) i (omega (arith, below.1))))
          (matches-from of n x nodes i)))
      | inr past ↦
          let j = i - length nodes in
          let k_at : length kepts + j ≡ i = omega (arith, past.1, ks) in
          let p_at : length parts + j ≡ i = omega (arith, past.1, ps) in
          let n_at : length nodes + j ≡ i = omega (arith, past.1) in
          let here : n + length nodes + j ≡ n + i = omega (arith, past.1) in
          subst (λ o. Matches (n + i) o (slice_get (parts ++ joined (map function_parts fs)) i) (slice_get (nodes ++ functions_order fs) i))
          (sym (in-second kepts rest j) ∙ ap (slice_get (kepts ++ rest)) k_at)
          (subst (λ o. Matches (n + i) (slice_get rest j) o (slice_get (nodes ++ functions_order fs) i))
          (sym (in-second parts (joined (map function_parts fs)) j) ∙ ap (slice_get (parts ++ joined (map function_parts fs))) p_at)
          (subst (λ o. Matches (n + i) (slice_get rest j) (slice_get (joined (map function_parts fs)) j) o)
          (sym (in-second nodes (functions_order fs) j) ∙ ap (slice_get (nodes ++ functions_order fs)) n_at)
          (subst (λ m. Matches m (slice_get rest j) (slice_get (joined (map function_parts fs)) j) (slice_get (functions_order fs) j)) here
          (matches (of + 1) (n + length nodes) fs j))))
    ]

-- the places of functions, from the numbers of the first one and of its first node
abbrev pub ways_by : ℕ → ℕ → List Function → List Way
ways_by a n [] = []
ways_by a n (f ∷ rest) = body_ways a n (parts_of f.body) ++ ways_by (a + 1) (n + function_nodes f) rest

head-of : {A : Type 0} (xs : List A) (a : ℕ) (x : A) (rest : List A) → drop a xs ≡ x ∷ rest → (slice_get xs a ≡ Some x) × (drop (suc a) xs ≡ rest)
head-of [] zero x rest is = absurd (cc is)
head-of [] (suc a) x rest is = absurd (cc is)
head-of (y ∷ xs) zero x rest is = (cc is, cc is)
head-of (y ∷ xs) (suc a) x rest is = head-of xs a x rest is

pub ways-by : (tree : Tree) (a : ℕ) (fs : List Function) → drop a tree.functions ≡ fs → ways_from tree a fs ≡ ways_by a (first_node tree a) fs
ways-by tree a [] is = refl
ways-by tree a (f ∷ rest) is =
    let head = head-of tree.functions a f rest is in
    let more : suc a ≡ a + 1 = omega arith in
    let after : drop (a + 1) tree.functions ≡ rest = ap (λ k. drop k tree.functions) (sym more) ∙ head.1 in
    let first : first_node tree (a + 1) ≡ first_node tree a + function_nodes f =
    ap (λ k. functions_nodes (take k tree.functions)) (sym more) ∙ nodes_more tree.functions a f head.0 in
    ap (λ ws. function_ways tree a f ++ ws) (ways-by tree (a + 1) rest after ∙ ap (λ n. ways_by (a + 1) n rest) first)

nodes-are : (f : Function) → function_nodes f ≡ length (function_order f)
nodes-are f = sym (order_of-length f.body)

-- the places of a body
body-places : (a n : ℕ) (f : Function) → places (body_ways a n (parts_of f.body)) ≡ Start (fn_id a) ∷ places_from n (function_order f)
body-places a n f = ap (λ ps. Start (fn_id a) ∷ ps) (body-placed f.body n outermost)

behind-start : (p : Place) (m a : ℕ) (b : Bool) (ps : List Place) → IsBehind p m b → among p (Start (fn_id a) ∷ ps) ≡ among p ps
behind-start (Start f) m a b ps is = absurd is
behind-start (After k) m a b ps is = refl
behind-start (True k) m a b ps is = refl
behind-start (False k) m a b ps is = refl

pub body-among : (p : Place) (m a n : ℕ) (b : Bool) (f : Function) → IsBehind p m b → among p (places (body_ways a n (parts_of f.body))) ≡ among p (places_from n (function_order f))
body-among p m a n b f is = ap (among p) (body-places a n f) ∙ behind-start p m a b (places_from n (function_order f)) is

map-append : (xs ys : List Way) → places (xs ++ ys) ≡ places xs ++ places ys
map-append [] ys = refl
map-append (x ∷ xs) ys = ap (λ ps. x.place ∷ ps) (map-append xs ys)

among-ways : (p : Place) (xs ys : List Way) → among p (places xs) ≡ false → among p (places ys) ≡ false → among p (places (xs ++ ys)) ≡ false
among-ways p xs ys first second = ap (among p) (map-append xs ys) ∙ among-neither p (places xs) (places ys) first second

-- places behind nodes before the functions, or after them, are none of theirs
pub next-below : (p : Place) (m a n : ℕ) (b : Bool) (fs : List Function) → IsBehind p m b → m < n → among p (places (ways_by a n fs)) ≡ false
next-below p m a n b [] is below = refl
next-below p m a n b (f ∷ fs) is below =
    among-ways p (body_ways a n (parts_of f.body)) (ways_by (a + 1) (n + function_nodes f) fs)
    (body-among p m a n b f is ∙ among-below p n m b (function_order f) is below)
    (next-below p m (a + 1) (n + function_nodes f) b fs is (omega (arith, below)))

pub next-above : (p : Place) (m a n : ℕ) (b : Bool) (fs : List Function) → IsBehind p m b → n + functions_nodes fs ≤ m → among p (places (ways_by a n fs)) ≡ false
next-above p m a n b [] is above = refl
next-above p m a n b (f ∷ fs) is above =
    among-ways p (body_ways a n (parts_of f.body)) (ways_by (a + 1) (n + function_nodes f) fs)
    (body-among p m a n b f is ∙ among-above p n m b (function_order f) is (omega (arith, above, nodes-are f)))
    (next-above p m (a + 1) (n + function_nodes f) b fs is (omega (arith, above)))

-- The function in which a node that is kept stands: how many functions lie before it, its first node, and which of its
-- nodes this is. What control meets behind the node is told by the places of that function.
pub record Stands (a n : ℕ) (fs : List Function) (i : ℕ) (k : Kept) : Type 0 where
  pub before : ℕ
  pub function : Function
  pub local : ℕ
  pub number : k.of ≡ a + before
  pub got : slice_get fs before ≡ Some function
  pub start : n + i ≡ n + functions_nodes (take before fs) + local
  pub inside : slice_get (function_order function) local ≡ Some k.node
  pub leads : (p : Place) (b : Bool) → IsBehind p (n + i) b
      → next_at p (ways_by a n fs) ≡ next_at p (body_ways (a + before) (n + functions_nodes (take before fs)) (parts_of function.body))

kept-node : (of n x : ℕ) (nodes : List Node) (i : ℕ) (k : Kept) → slice_get (kept_from of n x nodes) i ≡ Some k → (slice_get nodes i ≡ Some k.node) × (k.of ≡ of)
kept-node of n x [] i k is = absurd (none-some k is)
kept-node of n x (node ∷ rest) zero k is =
    let same : kept_of of n x node ≡ k = cc is in
    (ap (λ o. Some o.node) same, sym (ap (λ o. o.of) same))
kept-node of n x (node ∷ rest) (suc i) k is = kept-node of (n + 1) (x + declared node) rest i k is

pub stands : (a n : ℕ) (fs : List Function) (i : ℕ) (k : Kept) → slice_get (kept_functions a n fs) i ≡ Some k → Stands a n fs i k
stands a n [] i k is = absurd (none-some k is)
stands a n (f ∷ fs) i k is =
    let nodes = function_order f in
    let x = length f.params in
    let kepts = kept_from a n x nodes in
    let rest = kept_functions (a + 1) (n + length nodes) fs in
    let ks = kept-length a n x nodes in
    elim (leb_tells (suc i) (length nodes)) [
      | inl below ↦
          let own = kept-node a n x nodes i k (sym (in-first kepts rest i (omega (arith, below.1, ks))) ∙ is) in
          let none : n ≡ n + 0 = omega arith in
          let first : a ≡ a + 0 = omega arith in
          record {
            before = 0;
            function = f;
            local = i;
            number = own.1 ∙ first;
            got = refl;
            start = ap (λ m. m + i) none;
            inside = own.0;
            leads = λ p b behind.
                next-first p (body_ways a n (parts_of f.body)) (ways_by (a + 1) (n + function_nodes f) fs)
                (next-below p (n + i) (a + 1) (n + function_nodes f) b fs behind (omega (arith, below.1, nodes-are f)))
                ∙ ap (λ m. next_at p (body_ways m n (parts_of f.body))) first
                ∙ ap (λ m. next_at p (body_ways (a + 0) m (parts_of f.body))) none;
          }
      | inr past ↦
          let j = i - length nodes in
          let at : length kepts + j ≡ i = omega (arith, past.1, ks) in
          let later = stands (a + 1) (n + length nodes) fs j k (sym (in-second kepts rest j) ∙ ap (slice_get (kepts ++ rest)) at ∙ is) in
          let here : n + length nodes + j ≡ n + i = omega (arith, past.1) in
          let count : a + 1 + later.before ≡ a + suc later.before = omega arith in
          let first : n + length nodes + functions_nodes (take later.before fs) ≡ n + (function_nodes f + functions_nodes (take later.before fs)) = omega (arith, nodes-are f) in
          let same : n + function_nodes f ≡ n + length nodes = omega (arith, nodes-are f) in
          record {
            before = suc later.before;
            function = later.function;
            local = later.local;
            number = later.number ∙ count;
            got = later.got;
            start = sym here ∙ later.start ∙ ap (λ m. m + later.local) first;
            inside = later.inside;
            leads = λ p b behind.
                next-skip p (body_ways a n (parts_of f.body)) (ways_by (a + 1) (n + function_nodes f) fs)
                (body-among p (n + i) a n b f behind ∙ among-above p n (n + i) b nodes behind (omega (arith, past.1)))
                ∙ ap (λ m. next_at p (ways_by (a + 1) m fs)) same
                ∙ later.leads p b (subst (λ m. IsBehind p m b) (sym here) behind)
                ∙ ap (λ m. next_at p (body_ways m (n + length nodes + functions_nodes (take later.before fs)) (parts_of later.function.body))) count
                ∙ ap (λ m. next_at p (body_ways (a + suc later.before) m (parts_of later.function.body))) first;
          }
    ]
