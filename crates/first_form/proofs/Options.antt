-- What a value that is there says of how it was made.
use Rattle.std.proofs.Common.{◌≡◌, Bool, true, false, Option, Some, None, option_and_then, if◌then◌else◌, refl}

pub some-is : {X : Type 0} (x y : X) → Some x ≡ Some y → x ≡ y
some-is x y e = cc

pub if-some : {X : Type 0} (b : Bool) (o : Option X) (x : X) → (if b then o else None) ≡ Some x → (b ≡ true) × (o ≡ Some x)
if-some true o x e = (refl, e)
if-some false o x e = cc

pub bind-some : {X Y : Type 0} (f : X → Option Y) (o : Option X) (y : Y) → option_and_then f o ≡ Some y
    → (x : X) × (o ≡ Some x) × (f x ≡ Some y)
bind-some f None y e = cc
bind-some f (Some x) y e = (x, refl, e)
