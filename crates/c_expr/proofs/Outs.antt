-- What a reader answers, mapped twice.
use Rattle.std.proofs.Common.{◌≡◌, List, refl}
use Rattle.c_reading.specs.Reader.{Out, Got, Stop, next, map_out}

pub fuse : {T A B C : Type 0} (f : B → C) (g : A → B) (o : Out T A) → map_out f (map_out g o) ≡ map_out (λ a. f (g a)) o
fuse f g (Got a r) = refl
fuse f g (Stop e r) = refl

-- one way to map in place of two, where they give the same
pub relay : {T A B C : Type 0} (f : A → B) (g : B → C) (k : A → C) (o : Out T A) → ((a : A) → k a ≡ g (f a)) → map_out k o ≡ map_out g (map_out f o)
relay f g k (Got a r) h = rw (h a) refl
relay f g k (Stop e r) h = refl

pub next-same : {T A B : Type 0} (o : Out T A) (q p : A → List T → Out T B) → ((a : A) (r : List T) → q a r ≡ p a r) → next o q ≡ next o p
next-same (Got a r) q p h = h a r
next-same (Stop e r) q p h = refl
