-- What an exported call returns and leaves: the call's own outcome, its answer as number, list and place.
use Rattle.std.specs.Prelude.{ℕ, ◌≡◌, List, length, Result, Ok, Err}
use Rattle.answer.specs.declared.Refusal.{Refusal}
use Rattle.answer.specs.Answers.{Answer, reason_number, number_of, list_of, place_of}
use Rattle.answer.specs.Fronts.{left}
use Rattle.answer.specs.Judges.{room_answer}
use Rattle.evaluate.specs.Evaluate.{Evaluated}
use Rattle.meter.specs.declared.Level.{Level}
use Rattle.meter.specs.declared.Metered.{Metered}
use Rattle.meter.specs.Meter.{MeteredAs}
use Rattle.glue.specs.Glue.{GluedAs}
use Rattle.choice.specs.Choice.{Chosen}
use Rattle.cipher.specs.Cipher.{Streamed, Ciphered}
use Rattle.netlist.specs.Net.{Net}
use Rattle.netlist.specs.Emitted.{Emitted}
use Rattle.emit.specs.declared.Size.{Size}
use Rattle.path.specs.Path.{Scored}
use Rattle.records.specs.declared.form.Form.TheVariants.{Full}
use Rattle.file.specs.File.{ReadAs, WrittenAs}
use Rattle.text.specs.Text.{Printed}
use Rattle.port.specs.declared.Field.{Field}
use Rattle.port.specs.declared.Port.{Port}
use Rattle.port.specs.Layout.{field_number, bits_of}
use Rattle.frames.specs.Frames.{Appended, AppendedAfter, FramesRead}
use Rattle.probe.specs.declared.Reply.{Reply}
use Rattle.probe.specs.declared.Metering.{Metering}
use Rattle.probe.specs.declared.Printout.{Printout}
use Rattle.probe.specs.declared.Sizing.{Sizing}
use Rattle.probe.specs.declared.Fielding.{Fielding}
use Rattle.probe.specs.declared.Putting.{Putting}

unfoldable pub reply_of : Answer → Reply
reply_of a = record { number = number_of a; list = list_of a; place = place_of a }

pub record EvaluateReply (net inputs vals outs : List ℕ) (r : Reply) (vals' outs' : List ℕ) : Type 0 where
  pub answer : Answer
  pub outcome : Evaluated net inputs vals outs answer vals' outs'
  pub told : r ≡ reply_of answer

unfoldable pub metering_of : Metered → Metering
metering_of m = record {
  number = number_of m.answer;
  list = list_of m.answer;
  place = place_of m.answer;
  depth = m.depth;
  multiplications = m.multiplications;
}

pub record MeterReply (net ds : List ℕ) (ls : List Level) (r : Metering) (ds' : List ℕ) (ls' : List Level) : Type 0 where
  pub metered : Metered
  pub outcome : MeteredAs net ds ls metered ds' ls'
  pub told : r ≡ metering_of metered

pub record GlueReply (a b out : List ℕ) (r : Reply) (out' : List ℕ) : Type 0 where
  pub answer : Answer
  pub outcome : GluedAs a b out answer out'
  pub told : r ≡ reply_of answer

pub record ChooseReply (inst : ℕ) (draws row : List ℕ) (r : Reply) (row' : List ℕ) : Type 0 where
  pub answer : Answer
  pub outcome : Chosen inst draws row answer row'
  pub told : r ≡ reply_of answer

pub record KeystreamReply (inst m : ℕ) (key idx wh out : List ℕ) (r : Reply) (out' : List ℕ) : Type 0 where
  pub answer : Answer
  pub outcome : Streamed inst m key idx wh out answer out'
  pub told : r ≡ reply_of answer

pub record CipherReply (inst m : ℕ) (key rec idx wh out : List ℕ) (r : Reply) (out' : List ℕ) : Type 0 where
  pub answer : Answer
  pub outcome : Ciphered inst m key rec idx wh out answer out'
  pub told : r ≡ reply_of answer

unfoldable pub sizing_of : Result Size Refusal → Sizing
sizing_of (Ok s) = record { number = 0; list = 0; place = 0; gates = s.gates; words = s.words }
sizing_of (Err e) = record { number = reason_number e.reason; list = e.list; place = e.place; gates = 0; words = 0 }

-- a call of emission that was due this answer, of this netlist
pub record EmitReply (due : Answer) (net : Net) (out : List ℕ) (r : Reply) (out' : List ℕ) : Type 0 where
  pub answer : Answer
  pub outcome : Emitted due net out answer out'
  pub told : r ≡ reply_of answer

pub record ScoreReply (inst m : ℕ) (key rec idx wh score enc net glued inp vals out : List ℕ) (r : Reply) (enc' net' glued' inp' vals' out' : List ℕ) : Type 0 where
  pub answer : Answer
  pub outcome : Scored inst m key rec idx wh score enc net glued inp vals out answer enc' net' glued' inp' vals' out'
  pub told : r ≡ reply_of answer

pub record ReadReply (source out : List ℕ) (r : Reply) (out' : List ℕ) : Type 0 where
  pub answer : Answer
  pub outcome : ReadAs Full source out answer out'
  pub told : r ≡ reply_of answer

pub record WriteReply (net out : List ℕ) (r : Reply) (out' : List ℕ) : Type 0 where
  pub answer : Answer
  pub outcome : WrittenAs Full net out answer out'
  pub told : r ≡ reply_of answer

unfoldable pub printout_of : Result ℕ Refusal → Printout
printout_of (Ok n) = record { number = 0; list = 0; place = 0; size = n }
printout_of (Err e) = record { number = reason_number e.reason; list = e.list; place = e.place; size = 0 }

pub record PrintReply (input out : List ℕ) (r : Printout) (out' : List ℕ) : Type 0 where
  pub printed : Result ℕ Refusal
  pub outcome : Printed input out printed out'
  pub told : r ≡ printout_of printed

pub record AppendReply (key rec iv s out : List ℕ) (r : Reply) (out' : List ℕ) : Type 0 where
  pub answer : Answer
  pub outcome : Appended key rec iv s out answer out'
  pub told : r ≡ reply_of answer

pub record AppendAfterReply (key rec iv last out : List ℕ) (r : Reply) (out' : List ℕ) : Type 0 where
  pub answer : Answer
  pub outcome : AppendedAfter key rec iv last out answer out'
  pub told : r ≡ reply_of answer

pub record FramesReply (key s out : List ℕ) (r : Reply) (out' : List ℕ) : Type 0 where
  pub answer : Answer
  pub outcome : FramesRead key s out answer out'
  pub told : r ≡ reply_of answer

-- a port's fields, or the refusal
unfoldable pub fielding_of : Result Port Refusal → Fielding
fielding_of (Ok p) = record {
  number = 0;
  list = 0;
  place = 0;
  port = p.number;
  admin = p.admin;
  link = p.link;
  errors = p.errors;
  load = p.load;
}
fielding_of (Err e) = record {
  number = reason_number e.reason;
  list = e.list;
  place = e.place;
  port = 0;
  admin = 0;
  link = 0;
  errors = 0;
  load = 0;
}

-- what writing the bits of a port answers, where n places are lent, and leaves; a value that is too large writes nothing
unfoldable pub putting_of : Result Port Field → ℕ → Putting
putting_of (Err f) n = record { number = 0; list = 0; place = 0; field = field_number f }
putting_of (Ok p) n = record {
  number = number_of (room_answer 1 n 64);
  list = list_of (room_answer 1 n 64);
  place = place_of (room_answer 1 n 64);
  field = 0;
}

unfoldable pub bits_left : Result Port Field → List ℕ → List ℕ
bits_left (Err f) out = out
bits_left (Ok p) out = left (room_answer 1 (length out) 64) (bits_of p) out
