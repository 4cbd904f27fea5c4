-- What a constructor leaves: an order of that size and span in which nothing waits, with every hand at 0.
use Rattle.std.specs.Prelude.{◌≡◌, ℕ, []}
use Rattle.orders.specs.declared.Order.{Ghosts}
use Rattle.orders.specs.declared.flat.FlatOrder.{FlatOrder}
use Rattle.orders.specs.declared.bottom.BottomWheel.{BottomWheel}
use Rattle.orders.specs.declared.wheel.Wheel.{Wheel}
use Rattle.orders.specs.Meaning.{OrderMeaning}
use Rattle.orders.specs.Kinds.{flats, bottoms, wheels}
use Rattle.orders.specs.Wheels.{wheel_size, wheel_span}

pub record Fresh (O : Type 0) (g : Ghosts O) (size span : ℕ) (o : O) : Type 0 where
  pub meaning : g.meaning o ≡ record { size = size; span = span; waiting = [] }
  pub rested : g.rested o

abbrev pub FreshFlat : FlatOrder → Type 0
FreshFlat o = Fresh FlatOrder flats 1024 65280 o

abbrev pub FreshBottom : BottomWheel → Type 0
FreshBottom w = Fresh BottomWheel bottoms 1024 255 w

-- Over an order of that size and span.
abbrev pub FreshWheel : (O : Type 0) (g : Ghosts O) → OrderMeaning → Wheel O g → Type 0
FreshWheel O g m w = Fresh (Wheel O g) (wheels O g) (wheel_size m) (wheel_span m) w

abbrev pub FreshPile : Wheel BottomWheel bottoms → Type 0
FreshPile w = Fresh (Wheel BottomWheel bottoms) (wheels BottomWheel bottoms) 1024 65280 w
