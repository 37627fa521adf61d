-- A line of several parts is what its parts are together.
use Rattle.std.proofs.Common.{◌≡◌, ℕ, List, ◌++◌, codes, ap, sym, append_assoc}
use Rattle.cfix_core.specs.Stops.{limit_end, long_line}

pub long_parts : (name : List ℕ) (limit : ℕ)
    → long_line name limit ≡ (codes "cfix: " ++ (name ++ codes " is longer than ")) ++ limit_end limit
long_parts name limit = ap (λ rest. codes "cfix: " ++ rest) (sym (append_assoc name (codes " is longer than ") (limit_end limit)))
