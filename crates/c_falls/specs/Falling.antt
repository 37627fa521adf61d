-- How a statement ends, as the definitions speak of it.
use Rattle.c_prog.specs.Valid.Falls as f
use Rattle.c_falls.specs.declared.falls.Fall.{Fall}

abbrev pub fall_view : Fall → f.Fall
fall_view fall = record { falls = fall.falls; breaks = fall.breaks }
