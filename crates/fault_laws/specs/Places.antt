-- Where a fault of a file can stand.
use Rattle.std.specs.Prelude.{◌≡◌, map, ◌⊎◌, Contains}
use Rattle.cfix_base.specs.declared.Spot.{Spot}
use Rattle.c_grammar.specs.File.{File, file_tokens}

-- at the first byte of a token of the file, or at the text's end
abbrev pub StandsAt : Spot → File → Spot → Type 0
StandsAt end file at = Contains (map (λ token. token.spot) (file_tokens file)) at ⊎ (at ≡ end)
