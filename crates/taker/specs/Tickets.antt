-- The number that an open's ticket carries.
use Rattle.std.specs.Prelude.{ℕ, Ok, Err, Result}
use Rattle.taker.specs.declared.ticket.Ticket.{Ticket}

abbrev pub number_of : {F : Type 0} → Result Ticket F → Result ℕ F
number_of (Ok t) = Ok t.number
number_of (Err f) = Err f
