use Rattle.std.specs.Prelude.{Bool, false, ◌&&◌, ◌==◌}
use Rattle.ls_base.specs.declared.place.Place.{Place}
use Rattle.ls_base.specs.declared.place.Place.TheVariants.{Wal, Rest}

-- whether two places are one
abbrev pub is_same_place : Place → Place → Bool
is_same_place (Wal a b c d e) (Wal v w x y z) = a == v && b == w && c == x && d == y && e == z
is_same_place (Rest sum) (Rest other) = sum == other
is_same_place (Wal a b c d e) (Rest other) = false
is_same_place (Rest sum) (Wal v w x y z) = false
