-- The orders of this crate: what each means, and when its hands are at 0.
use Rattle.std.specs.Prelude.{◌≡◌, take}
use Rattle.orders.specs.Rings.{nexts}
use Rattle.orders.specs.declared.Order.{Ghosts}
use Rattle.orders.specs.declared.flat.FlatOrder.{FlatOrder}
use Rattle.orders.specs.declared.bottom.BottomWheel.{BottomWheel}
use Rattle.orders.specs.declared.wheel.Wheel.{Wheel}
use Rattle.orders.specs.Flat.{bottom}
use Rattle.orders.specs.FlatTable.{flat_order}
use Rattle.orders.specs.Steps.{means}

-- The flat order has no hands.
abbrev pub flats : Ghosts FlatOrder
flats = record {
  meaning = λ o. flat_order (take o.count o.entries);
  rested = λ _. Unit {0};
}

-- The bottom wheel.
abbrev pub bottoms : Ghosts BottomWheel
bottoms = record {
  meaning = λ w. bottom (nexts w.queues.nodes) w.hand;
  rested = λ w. w.hand ≡ 0;
}

-- A wheel, over any order.
abbrev pub wheels : (O : Type 0) (g : Ghosts O) → Ghosts (Wheel O g)
wheels O g = record {
  meaning = λ w. means w.own (g.meaning w.below);
  rested = λ w. (w.own.hand ≡ 0) × g.rested w.below;
}
