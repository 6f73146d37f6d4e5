-- Each example is computed.
use Rattle.std.proofs.Common.{refl}
use Rattle.stream.specs.Bits.{bit, bits, first, octet_bits, packed, times}
use Rattle.registers.specs.Polynomials.{value}
use Rattle.registers.specs.Registers.{clock, moved, value_at}
use Rattle.strip.specs.Strips as strip
use Rattle.strip.specs.Strips.{ones, zeros, sum_of, first_cleared, lowered, cleared}
use Rattle.column.specs.Columns.{largest, blanks, written, torn_by}
use Rattle.link.specs.Frames.{octets_number}
use Rattle.worked.specs.Examples.{WorkedExamples}

pub shown : WorkedExamples
unfolding bit bits first octet_bits packed times value clock moved value_at ones zeros sum_of first_cleared lowered cleared strip.raised_by largest blanks written torn_by octets_number
shown = record {
  grain_output = refl;
  grain_new = refl;
  sprout_output = refl;
  sprout_new = refl;
  iv = refl;
  grain_refuses = refl;
  sprout_takes = λ n. refl;
  sprout_refuses = λ n. refl;
  draw = refl;
  strip_mark = refl;
  strip_left = refl;
  strip_raised = refl;
  column_raised = refl;
  column_torn_mark = refl;
  column_torn_left = refl;
  column_torn_late = refl;
  first_place = refl;
  then_refused = refl;
  second_place = refl;
  frame_header = refl;
  late_distance = refl;
  late_end = refl;
}
