-- What the calls on a pile and on a stack of three answer.
use Rattle.std.specs.Prelude.{ℕ, Some, Option}
use Rattle.orders.specs.declared.Expelled.{Expelled}
use Rattle.orders.specs.declared.bottom.BottomWheel.{BottomWheel}
use Rattle.orders.specs.declared.wheel.Wheel.{Wheel}
use Rattle.orders.specs.Kinds.{bottoms, wheels}
use Rattle.orders.specs.Fresh.{Fresh}

abbrev pub gone : ℕ → ℕ → Option Expelled
gone slot credit = Some (record { slot = slot; credit = credit })

-- A wheel over a pile: 256 times the pile's span.
abbrev pub FreshStack : Wheel (Wheel BottomWheel bottoms) (wheels BottomWheel bottoms) → Type 0
FreshStack s = Fresh (Wheel (Wheel BottomWheel bottoms) (wheels BottomWheel bottoms)) (wheels (Wheel BottomWheel bottoms) (wheels BottomWheel bottoms)) 1024 16711680 s
