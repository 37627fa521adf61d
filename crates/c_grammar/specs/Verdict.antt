-- What a whole text is for a grammar, and at which token reading one stops. A grammar is given by the tokens of each
-- tree with their depths, and by a test that says which trees it derives.
use Rattle.std.specs.Prelude.{◌≡◌, ℕ, ◌≤◌, ◌<◌, Bool, true, List, [], ◌∷◌, ◌++◌}
use Rattle.c_grammar.specs.Marks.{tokens, Agree}

-- no token is deeper than the limit
abbrev pub IsShallow : {T : Type 0} → ℕ → List (T × ℕ) → Type 0
IsShallow limit [] = Unit {0}
IsShallow limit (m ∷ ms) = (m.1 ≤ limit) × IsShallow limit ms

-- no two derived trees have the same tokens
abbrev pub HasOneTree : {T A : Type 0} → (A → List (T × ℕ)) → (A → Bool) → Type 0
HasOneTree {T} {A} marks good = (a b : A) → good a ≡ true → good b ≡ true → tokens (marks a) ≡ tokens (marks b) → a ≡ b

-- the tokens up to a token fix its depth: two derived trees give the tokens with which both begin the same depths
abbrev pub FixesDepths : {T A : Type 0} → (A → List (T × ℕ)) → (A → Bool) → Type 0
FixesDepths {T} {A} marks good = (a b : A) → good a ≡ true → good b ≡ true → Agree (marks a) (marks b)

-- some derived tree begins with these tokens
abbrev pub IsBegun : {T A : Type 0} → (A → List (T × ℕ)) → (A → Bool) → List T → Type 0
IsBegun {T} {A} marks good seen = (a : A) × (more : List T) × (good a ≡ true) × (tokens (marks a) ≡ seen ++ more)

-- The tokens are those of the tree, which is derived and nowhere too deep.
pub record IsRead {T A : Type 0} (limit : ℕ) (marks : A → List (T × ℕ)) (good : A → Bool) (ts : List T) (a : A) : Type 0 where
  pub derived : good a ≡ true
  pub spelled : ts ≡ tokens (marks a)
  pub shallow : IsShallow limit (marks a)

-- rest begins with the first token such that no tree begins with the tokens up to it; or it is empty, and the tokens
-- begin a tree and are none. The tokens before it are nowhere too deep.
pub record IsUnexpectedAt {T A : Type 0} (limit : ℕ) (marks : A → List (T × ℕ)) (good : A → Bool) (ts rest : List T) : Type 0 where
  pub seen : List T
  pub parts : ts ≡ seen ++ rest
  pub begun : IsBegun marks good seen
  pub none : (x : T) (more : List T) → rest ≡ x ∷ more → IsBegun marks good (seen ++ x ∷ []) → ⊥
  pub part : rest ≡ [] → (a : A) → good a ≡ true → tokens (marks a) ≡ ts → ⊥
  pub shallow : (a : A) (ms more : List (T × ℕ)) → good a ≡ true → marks a ≡ ms ++ more → tokens ms ≡ seen → IsShallow limit ms

-- rest begins with the first token that is too deep, and the tokens up to it begin a tree
pub record IsDeepAt {T A : Type 0} (limit : ℕ) (marks : A → List (T × ℕ)) (good : A → Bool) (ts rest : List T) : Type 0 where
  pub seen : List T
  pub token : T
  pub more : List T
  pub parts : ts ≡ seen ++ rest
  pub here : rest ≡ token ∷ more
  pub begun : IsBegun marks good (seen ++ token ∷ [])
  pub shallow : (a : A) (ms tail : List (T × ℕ)) (m : T × ℕ) → good a ≡ true → marks a ≡ ms ++ m ∷ tail → tokens ms ≡ seen → m.0 ≡ token → IsShallow limit ms
  pub deep : (a : A) (ms tail : List (T × ℕ)) (m : T × ℕ) → good a ≡ true → marks a ≡ ms ++ m ∷ tail → tokens ms ≡ seen → m.0 ≡ token → limit < m.1
