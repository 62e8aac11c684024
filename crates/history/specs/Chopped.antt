-- Two histories with the same orders, each with its own chopping of the text.
use Rattle.std.specs.Prelude.{◌≡◌, List}
use Rattle.orders.specs.Alike.{Alike}
use Rattle.taker.specs.Paragraph.{Taker}
use Rattle.history.specs.History.{Step, Reached}
use Rattle.history.specs.Orders.{orders, AnsweredAlike}

-- from takers that cannot be told apart, the same orders lead to such takers again (with equal feet and standing faults), and
-- are answered alike
pub record ChoppedAlike {E : Type 0} (x y : List Step) (m n : Taker E) : Type 0 where
  pub alike : Alike m n
  pub answers : AnsweredAlike x y

abbrev pub ChoppingIsHarmless : {E : Type 0} → Taker E → Taker E → Type 0
ChoppingIsHarmless {E} a b = Alike a b → (x y : List Step) (m n : Taker E) → Reached a x m → Reached b y n → orders x ≡ orders y → ChoppedAlike x y m n
