-- The feed card: a lent list at one input port, a lent buffer at one output port.
use Rattle.std.specs.Prelude.{ℕ, ◌+◌, cond, ◌&&◌, List, length, Ok, Err, Result, ◌==◌, nat_lt, slice_index, slice_set}
use Rattle.bus.specs.declared.cards.Trouble.{Trouble}
use Rattle.bus.specs.declared.cards.Trouble.TheVariants.{NoCard, Spent}
use Rattle.bus.specs.Card.{Clear, Rules}
use Rattle.bus.specs.Latch.{is_input, is_output}
use Rattle.peripherals.specs.declared.feed.FeedCard.{FeedCard}

-- The state: how many bytes of the list were taken, how many were put out, and what the buffer
-- holds. The bytes put out stand first in the buffer, in their order.
pub record Feed : Type 0 where
  pub taken : ℕ
  pub sent : ℕ
  pub buffer : List ℕ

-- What the rules depend on: the list, its input port, and the output port of the buffer.
pub record Wiring : Type 0 where
  pub list : List ℕ
  pub input_port : ℕ
  pub output_port : ℕ

-- What no call on a feed card alters besides the state: the buffer that it was lent, the buffer's
-- length, and the wiring.
pub record FeedFrame : Type 0 where
  pub place : ℕ
  pub size : ℕ
  pub wiring : Wiring

-- the wiring of a list and two port numbers
abbrev pub wired : List ℕ → ℕ → ℕ → Wiring
wired list input_port output_port = record { list = list; input_port = input_port; output_port = output_port }

-- nothing taken and nothing put out yet
abbrev pub unfed : List ℕ → Feed
unfed buffer = record { taken = 0; sent = 0; buffer = buffer }

-- the next byte of the list comes in
abbrev pub next_in : List ℕ → Feed → Clear Feed
next_in list s = record {
  next = record { taken = s.taken + 1; sent = s.sent; buffer = s.buffer };
  byte = slice_index list s.taken;
}

-- a byte goes out to the next place of the buffer
abbrev pub next_out : Feed → ℕ → Feed
next_out s b = record { taken = s.taken; sent = s.sent + 1; buffer = slice_set s.buffer s.sent b }

-- an input is clear while the list has a byte left
abbrev pub feed_input : List ℕ → Feed → Result (Clear Feed) Trouble
feed_input list s = cond (nat_lt s.taken (length list)) (Ok (next_in list s)) (Err Spent)

-- an output is clear while the buffer has a place left
abbrev pub feed_output : Feed → ℕ → Result Feed Trouble
feed_output s b = cond (nat_lt s.sent (length s.buffer)) (Ok (next_out s b)) (Err Spent)

-- A transfer at any other port has no card, and neither has one at a port of the other way, whatever
-- the wiring says.
abbrev pub feed_rules : Wiring → Rules Feed
feed_rules w = record {
  input = λ s p a. cond (is_input p && p == w.input_port) (feed_input w.list s) (Err NoCard);
  output = λ s p b. cond (is_output p && p == w.output_port) (feed_output s b) (Err NoCard);
}

-- the state of a card
abbrev pub feed_of : FeedCard → Feed
feed_of c = record { taken = c.taken; sent = c.sent; buffer = c.buffer.now }

-- the wiring of a card
abbrev pub wiring_of : FeedCard → Wiring
wiring_of c = wired c.list.now c.input_port c.output_port

-- the frame of a buffer and a wiring
abbrev pub feed_frame_at : ℕ → List ℕ → Wiring → FeedFrame
feed_frame_at place buffer w = record { place = place; size = length buffer; wiring = w }

-- the frame of a card
abbrev pub feed_frame : FeedCard → FeedFrame
feed_frame c = feed_frame_at c.buffer.ghost_name c.buffer.now (wiring_of c)
