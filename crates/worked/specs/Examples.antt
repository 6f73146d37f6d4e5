-- Worked examples of the rules, each stated of the definitions that the contracts cite.
use Rattle.std.specs.Prelude.{◌≡◌, ℕ, ◌+◌, min, Bool, true, false, List, [], ◌∷◌, replicate, negsuc, Some, None, slice_index_or}
use Rattle.stream.specs.Ciphers.{session_iv, load_refusal}
use Rattle.registers.specs.Registers.{Registers, value_at}
use Rattle.grain128.specs.Family as family
use Rattle.grain128.specs.Grain128 as grain128
use Rattle.grain128.specs.Grain128a as grain128a
use Rattle.sprout.specs.Sprout as sprout
use Rattle.strip.specs.Strips as strip
use Rattle.column.specs.Columns as column
use Rattle.link.specs.Frames.{header, frame, frame_place, frame_length}
use Rattle.link.specs.Senders.{send_refusal}
use Rattle.link.specs.Receivers.{distance_to}

-- so many zero octets
abbrev pub zeros : ℕ → List ℕ
zeros n = replicate n 0

-- Grain-128 as loaded with a zero key and a zero IV, and Sprout
abbrev pub grain_loaded : Registers
grain_loaded = family.loaded grain128.member (zeros 16) (zeros 12)

abbrev pub sprout_loaded : sprout.SproutState
sprout_loaded = sprout.loaded (zeros 10) (zeros 9)

-- the new bits of the first initialisation clock, which a clock puts last
abbrev pub new_bits : Registers → ℕ → Bool × Bool
new_bits t last = (slice_index_or t.linear last false, slice_index_or t.nonlinear last false)

-- the label whose octets are A0 to A7 hex
abbrev pub label : List ℕ
label = 0xA0 ∷ 0xA1 ∷ 0xA2 ∷ 0xA3 ∷ 0xA4 ∷ 0xA5 ∷ 0xA6 ∷ 0xA7 ∷ []

-- a strip of two octets, and a column of one blank pair
abbrev pub worn_strip : List ℕ
worn_strip = 0xFE ∷ 0x7F ∷ []

abbrev pub blank_pair : List ℕ
blank_pair = 0xFFFF_FFFF ∷ 0xFFFF_FFFF ∷ []

-- a frame of session 2 that starts at place 4 and has six octets of payload
abbrev pub late_frame : List ℕ
late_frame = frame 2 4 (zeros 6)

pub record WorkedExamples : Type 0 where
  -- Grain-128, zero key and IV: the first initialisation clock has z 0, new s 1 and new b 0
  pub grain_output : value_at grain_loaded (grain128.member).output ≡ false
  pub grain_new : new_bits (family.initial grain128.member grain_loaded) 127 ≡ (true, false)
  -- Sprout, zero key and IV: it has z 1, new s 0 and new b 1
  pub sprout_output : value_at sprout_loaded.registers sprout.output ≡ true
  pub sprout_new : new_bits (sprout.initial true sprout_loaded).registers 39 ≡ (false, true)
  -- the IV of session 258 under the label above
  pub iv : session_iv label 258 ≡ 0xA0 ∷ 0x02 ∷ 0x01 ∷ 0x00 ∷ 0x00 ∷ 0xA1 ∷ 0xA2 ∷ 0xA3 ∷ 0xA4 ∷ 0xA5 ∷ 0xA6 ∷ 0xA7 ∷ []
  -- Grain-128a refuses an IV whose bit 0 is 1
  pub grain_refuses : load_refusal grain128a.grain128a (zeros 16) (1 ∷ zeros 11) ≡ Some 3
  -- Sprout takes 63 as label octet 4, which is IV octet 8, and refuses 64, in every session
  pub sprout_takes : (n : ℕ) → load_refusal sprout.sprout (zeros 10) (session_iv (0 ∷ 0 ∷ 0 ∷ 0 ∷ 63 ∷ []) n) ≡ None
  pub sprout_refuses : (n : ℕ) → load_refusal sprout.sprout (zeros 10) (session_iv (0 ∷ 0 ∷ 0 ∷ 0 ∷ 64 ∷ []) n) ≡ Some 3
  -- a draw of 40 at stride 32 answers 32 bits
  pub draw : min 40 (grain128.grain128x32).figures.stride ≡ 32
  -- strip FE 7F hex has mark 2 and 14 raises left; raised, it is FC 7F
  pub strip_mark : strip.strip_mark worn_strip ≡ 2
  pub strip_left : strip.strip_left worn_strip ≡ 14
  pub strip_raised : strip.raised_by 1 worn_strip ≡ 0xFC ∷ 0x7F ∷ []
  -- a blank pair, raised, is 00000001 FFFFFFFE hex
  pub column_raised : column.raised_by 1 blank_pair ≡ 0x0000_0001 ∷ 0xFFFF_FFFE ∷ []
  -- torn there before any write went through, with junk 0: mark 0 and no raise left
  pub column_torn_mark : column.column_mark (column.torn_by 1 0 0 blank_pair) ≡ 0
  pub column_torn_left : column.column_left (column.torn_by 1 0 0 blank_pair) ≡ 0
  -- torn there after one write, with junk FFFFFFFE hex: mark 1
  pub column_torn_late : column.column_mark (column.torn_by 1 1 0xFFFF_FFFE blank_pair) ≡ 1
  -- at allowance 10, plains of 4, 7 and 6 octets give place 0, refusal 11 and place 4, into buffers that take any frame
  pub first_place : send_refusal 0 10 4 1034 ≡ None
  pub then_refused : send_refusal (0 + 4) 10 7 1034 ≡ Some 11
  pub second_place : send_refusal (0 + 4) 10 6 1034 ≡ None
  -- the header of session 2, place 4, length 1
  pub frame_header : header 2 4 1 ≡ 0x02 ∷ 0x00 ∷ 0x00 ∷ 0x00 ∷ 0x04 ∷ 0x00 ∷ 0x00 ∷ 0x00 ∷ 0x01 ∷ 0x00 ∷ []
  -- a receiver that stands at 10 in session 2, given place 4 and length 6, answers -6 and stands at 10
  pub late_distance : distance_to (Some 2) 10 late_frame ≡ negsuc 5
  pub late_end : frame_place late_frame + frame_length late_frame ≡ 10
