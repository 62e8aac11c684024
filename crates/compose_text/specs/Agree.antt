-- Two composers of one width.
use Rattle.std.specs.Prelude.{◌≡◌, ℕ, List}
use Rattle.sink.specs.Sink.{Sink}
use Rattle.sink.specs.Same.{Matched}
use Rattle.taker.specs.Paragraph.{Taker}
use Rattle.history.specs.History.{Step, Reached}
use Rattle.history.specs.Orders.{orders}
use Rattle.history.specs.Chopped.{ChoppedAlike}
use Rattle.composer.specs.Composers.{new_means}

-- over matched sinks, any steps x and y with the same orders
abbrev pub ComposersAgree : Sink → Sink → Type 0
ComposersAgree m l = Matched m l → (w : ℕ) (x y : List Step) (a b : Taker ℕ) → Reached (new_means w m) x a → Reached (new_means w l) y b → orders x ≡ orders y → ChoppedAlike x y a b
