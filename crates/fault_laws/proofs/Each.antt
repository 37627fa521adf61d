-- Properties of each item of a list; of the places of tokens, and of those of faults.
use Rattle.std.proofs.Common.{ℕ, suc, max, Bool, true, false, not, List, [], ◌∷◌, ◌++◌, cond}
use Rattle.cfix_base.specs.declared.Spot.{Spot}
use Rattle.cfix_base.specs.Words.{is_reserved_text}
use Rattle.c_grammar.specs.Token.{Ident, Mark}
use Rattle.c_grammar.specs.Expr.{Piece, placed}
use Rattle.c_names.specs.declared.fault.Fault.{Fault}
use Rattle.c_names.specs.declared.fault.FaultKind.{FaultKind}
use Rattle.c_names.specs.declared.fault.FaultKind.TheVariants.{WrongUse, Reserved}
use Rattle.c_names.specs.Faults.{fault_if}
use Rattle.c_names.specs.Uses.{Use, IsLocal, IsGlobal, IsFunction, IsDefined, IsUnknown}
use Rattle.c_names.specs.Names.{reserved_faults, use_faults}

abbrev pub Over : {T : Type 0} → (T → Type 0) → List T → Type 0
Over Q [] = Unit {0}
Over Q (x ∷ xs) = Q x × Over Q xs

-- the property holds of each item
pub record Each {T : Type 0} (Q : T → Type 0) (xs : List T) : Type 0 where
  pub all : Over Q xs

over_front : {T : Type 0} (Q : T → Type 0) (xs ys : List T) → Over Q (xs ++ ys) → Over Q xs
over_front Q [] ys h = tt
over_front Q (x ∷ xs) ys h = (h.0, over_front Q xs ys h.1)

over_back : {T : Type 0} (Q : T → Type 0) (xs ys : List T) → Over Q (xs ++ ys) → Over Q ys
over_back Q [] ys h = h
over_back Q (x ∷ xs) ys h = over_back Q xs ys h.1

over_both : {T : Type 0} (Q : T → Type 0) (xs ys : List T) → Over Q xs → Over Q ys → Over Q (xs ++ ys)
over_both Q [] ys g h = h
over_both Q (x ∷ xs) ys g h = (g.0, over_both Q xs ys g.1 h)

pub none : {T : Type 0} {Q : T → Type 0} → Each Q []
none = record { all = tt }

pub more : {T : Type 0} {Q : T → Type 0} {x : T} {xs : List T} → Q x → Each Q xs → Each Q (x ∷ xs)
more g h = record { all = (g, h.all) }

pub only : {T : Type 0} {Q : T → Type 0} {x : T} → Q x → Each Q (x ∷ [])
only g = record { all = (g, tt) }

pub first : {T : Type 0} {Q : T → Type 0} {x : T} {xs : List T} → Each Q (x ∷ xs) → Q x
first h = h.all.0

pub rest : {T : Type 0} {Q : T → Type 0} {x : T} {xs : List T} → Each Q (x ∷ xs) → Each Q xs
rest h = record { all = h.all.1 }

pub front : {T : Type 0} {Q : T → Type 0} (xs ys : List T) → Each Q (xs ++ ys) → Each Q xs
front {T} {Q} xs ys h = record { all = over_front Q xs ys h.all }

pub back : {T : Type 0} {Q : T → Type 0} (xs ys : List T) → Each Q (xs ++ ys) → Each Q ys
back {T} {Q} xs ys h = record { all = over_back Q xs ys h.all }

pub both : {T : Type 0} {Q : T → Type 0} {xs ys : List T} → Each Q xs → Each Q ys → Each Q (xs ++ ys)
both {T} {Q} {xs} {ys} g h = record { all = over_both Q xs ys g.all h.all }

-- ---- places

-- it holds of the place of each token
abbrev pub Tokens : (Spot → Type 0) → List Mark → Type 0
Tokens P ms = Each (λ (m : Mark). P m.0.spot) ms

abbrev pub Pieces : (Spot → Type 0) → List Piece → Type 0
Pieces P xs = Each (λ (x : Piece). P x.0.spot) xs

-- it holds of the place of each fault
abbrev pub Faults : (Spot → Type 0) → List Fault → Type 0
Faults P fs = Each (λ (f : Fault). P f.spot) fs

-- the pieces of an expression stand where its tokens do
over_unplaced : (P : Spot → Type 0) (n : ℕ) (xs : List Piece)
    → Over (λ (m : Mark). P m.0.spot) (placed n xs) → Over (λ (x : Piece). P x.0.spot) xs
over_unplaced P n [] h = tt
over_unplaced P n (x ∷ xs) h = at x.2 h (λ k g. over_unplaced P k xs g)
  where
    at : (v : Bool) → Over (λ (m : Mark). P m.0.spot) (cond v ((x.0, max x.1 (suc n)) ∷ placed (suc n) xs) ((x.0, x.1) ∷ placed n xs))
        → ((k : ℕ) → Over (λ (m : Mark). P m.0.spot) (placed k xs) → Over (λ (x : Piece). P x.0.spot) xs)
        → P x.0.spot × Over (λ (x : Piece). P x.0.spot) xs
    at true g f = (g.0, f (suc n) g.1)
    at false g f = (g.0, f n g.1)

pub unplaced : (P : Spot → Type 0) (n : ℕ) (xs : List Piece) → Tokens P (placed n xs) → Pieces P xs
unplaced P n xs h = record { all = over_unplaced P n xs h.all }

-- ---- faults of one name

pub if_so : (P : Spot → Type 0) (test : Bool) (s : Spot) (kind : FaultKind) → P s → Faults P (fault_if test s kind)
if_so P true s kind h = only h
if_so P false s kind h = none

pub reserved : (P : Spot → Type 0) (x : Ident) → P x.spot → Faults P (reserved_faults x)
reserved P x h = if_so P (is_reserved_text x.text) x.spot Reserved h

pub used : (P : Spot → Type 0) (fits : Bool) (found : Use) (s : Spot) → P s → Faults P (use_faults fits found s)
used P fits (IsLocal n kind) s h = if_so P (not fits) s WrongUse h
used P fits (IsGlobal n kind) s h = if_so P (not fits) s WrongUse h
used P fits (IsFunction n kind params) s h = if_so P (not fits) s WrongUse h
used P fits (IsDefined value) s h = if_so P (not fits) s WrongUse h
used P fits IsUnknown s h = only h

pub named : (P : Spot → Type 0) (fits : Bool) (found : Use) (x : Ident) → P x.spot → Faults P (reserved_faults x ++ use_faults fits found x.spot)
named P fits found x h = both (reserved P x h) (used P fits found x.spot h)
