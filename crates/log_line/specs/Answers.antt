-- The refusals' numbers in document 01, and what the answer for a header makes of the line.
use Rattle.std.specs.Prelude.{ℕ, [], Result}
use Rattle.text.specs.Walk.{Judged, answer_says}
use Rattle.log_line.specs.Header.{Columns}
use Rattle.log_line.specs.Format.{Known}
use Rattle.log_line.specs.declared.refusals.Refusal.{Refusal}
use Rattle.log_line.specs.declared.refusals.Refusal.TheVariants.{Size, Malformed, Header, Number, Links, Labels, Limit}
use Rattle.log_line.specs.declared.header.ColumnOrder.{ColumnOrder}

-- Document 01's numbers.
abbrev pub refusal_number : Refusal → ℕ
refusal_number Size = 20
refusal_number Malformed = 21
refusal_number Header = 22
refusal_number Number = 23
refusal_number Links = 24
refusal_number Labels = 25
refusal_number Limit = 26

-- The columns of an order.
abbrev pub order_of : ColumnOrder → Columns
order_of c = record { vertex = c.vertex; board = c.board; labels = c.labels; preds = c.preds }

-- What an answer says of a header.
abbrev pub header_says : Result ColumnOrder Refusal → Judged Known
header_says = answer_says refusal_number (λ c. record { columns = order_of c; steps = [] })
