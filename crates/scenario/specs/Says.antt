-- What a line says, and why it is refused.
use Rattle.std.specs.Prelude.{◌≡◌, ℕ, ◌%◌, ◌⊎◌, List, [], ◌∷◌, ◌++◌, length, vec_items, codes, Result, MatchResult, ◌≢◌}
use Rattle.std.specs.Str.Parse.{AllDigits, digits_value}
use Rattle.texts.specs.Hex.{HexOf, HexRefused}
use Rattle.texts.specs.Names.{cipher_word, DecimalOf}
use Rattle.texts.specs.Words.{words_of}
use Rattle.texts.specs.declared.hex.HexFault.{HexFault}
use Rattle.texts.specs.declared.hex.HexFault.TheVariants.{BadDigit, OddCount, NoMemory as NoMemoryForHex}
use Rattle.texts.specs.declared.names.CipherName.{CipherName}
use Rattle.scenario.specs.Grammar.{Kind, engine_kind, number_kind, octets_kind, word32_kind, command_word, takes, OneOf, Fits, ReadAs}
use Rattle.scenario.specs.declared.command.Command.{Command}
use Rattle.scenario.specs.declared.fault.LineFault.{LineFault}
use Rattle.scenario.specs.declared.fault.LineFault.TheVariants.{UnknownWord, WordCount, UnknownEngine, BadHex, BadNumber, BadWord32, PartWord, NoMemory}
use Rattle.scenario.specs.declared.line.Line.{Line}
use Rattle.scenario.specs.declared.line.Line.TheVariants.{Blank, Sender, Receiver, Strip, FreshStrip, Column, FreshColumn, Key, Label, Allowance, Room, Open, Close, Cut, Pair, TornOpen, Send, Deliver, Alter, Noise}
use Rattle.scenario.specs.declared.values.Memory.{Memory}
use Rattle.scenario.specs.declared.values.Memory.TheVariants.{Written, Fresh}

-- the fault of a line by that of its hexadecimal digits
abbrev pub hex_fault : HexFault → LineFault
hex_fault (BadDigit i) = BadHex (BadDigit i)
hex_fault OddCount = BadHex OddCount
hex_fault NoMemoryForHex = NoMemory

-- the text is 8 hexadecimal digits, the most significant first, and writes n
pub record Word32Of (bs : List ℕ) (n : ℕ) : Type 0 where
  pub eight : length bs ≡ 8
  pub all_digits : AllDigits 16 bs
  pub reads : n ≡ digits_value 16 bs

-- the words are this one and a decimal number
abbrev pub NumberAfter : List ℕ → List (List ℕ) → ℕ → Type 0
NumberAfter first ws n = (w : List ℕ) × (ws ≡ first ∷ w ∷ []) × DecimalOf w n

-- the words are this one, `fresh` and a decimal number
abbrev pub FreshAfter : List ℕ → List (List ℕ) → ℕ → Type 0
FreshAfter first ws n = (w : List ℕ) × (ws ≡ first ∷ codes "fresh" ∷ w ∷ []) × DecimalOf w n

-- the words are this one and the hexadecimal digits of octets
abbrev pub HexAfter : List ℕ → List (List ℕ) → List ℕ → Type 0
HexAfter first ws xs = (w : List ℕ) × (ws ≡ first ∷ w ∷ []) × HexOf w xs

-- the same, or the words are this one alone and there are no octets
abbrev pub OctetsAfter : List ℕ → List (List ℕ) → List ℕ → Type 0
OctetsAfter first ws xs = ((ws ≡ first ∷ []) × (xs ≡ [])) ⊎ HexAfter first ws xs

-- what a memory is made of: octets, or a number of fresh ones
abbrev pub MemoryAfter : List ℕ → List (List ℕ) → Memory → Type 0
MemoryAfter first ws (Written v) = HexAfter first ws (vec_items v)
MemoryAfter first ws (Fresh n) = FreshAfter first ws n

-- what a word gives that is read as a command: the command that has that word, or an error where none has it
abbrev pub NamesCommand : List ℕ → Result Command LineFault → Type 0
NamesCommand w r = MatchResult r (λ c. w ≡ command_word c) (λ e. (e ≡ UnknownWord) × ((c : Command) → w ≢ command_word c))

-- what the words of a line say
abbrev pub WordsSay : List (List ℕ) → Line → Type 0
WordsSay ws Blank = ws ≡ []
WordsSay ws (Sender c) = ws ≡ codes "sender" ∷ cipher_word c ∷ []
WordsSay ws (Receiver c) = ws ≡ codes "receiver" ∷ cipher_word c ∷ []
WordsSay ws (Strip v) = HexAfter (codes "strip") ws (vec_items v)
WordsSay ws (FreshStrip n) = FreshAfter (codes "strip") ws n
WordsSay ws (Column v) = HexAfter (codes "column") ws (vec_items v) × (length (vec_items v) % 4 ≡ 0)
WordsSay ws (FreshColumn n) = FreshAfter (codes "column") ws n
WordsSay ws (Key v) = OctetsAfter (codes "key") ws (vec_items v)
WordsSay ws (Label v) = OctetsAfter (codes "label") ws (vec_items v)
WordsSay ws (Allowance n) = NumberAfter (codes "allowance") ws n
WordsSay ws (Room n) = NumberAfter (codes "room") ws n
WordsSay ws Open = ws ≡ codes "open" ∷ []
WordsSay ws Close = ws ≡ codes "close" ∷ []
WordsSay ws Cut = ws ≡ codes "cut" ∷ []
WordsSay ws Pair = ws ≡ codes "pair" ∷ []
WordsSay ws (TornOpen n j) = (a : List ℕ) × (b : List ℕ) × (ws ≡ codes "torn" ∷ a ∷ b ∷ []) × DecimalOf a n × Word32Of b j
WordsSay ws (Send v) = OctetsAfter (codes "send") ws (vec_items v) ⊎ ((ws ≡ codes "say" ∷ []) × (vec_items v ≡ []))
WordsSay ws (Deliver n) = NumberAfter (codes "deliver") ws n
WordsSay ws (Alter n k v) = (a : List ℕ) × (b : List ℕ) × (h : List ℕ) × (ws ≡ codes "alter" ∷ a ∷ b ∷ h ∷ []) × DecimalOf a n × DecimalOf b k × HexOf h (vec_items v)
WordsSay ws (Noise v) = OctetsAfter (codes "noise") ws (vec_items v)

-- what holds of the words of a line where they are refused
abbrev pub WordsRefused : List (List ℕ) → LineFault → Type 0
WordsRefused ws UnknownWord = (w : List ℕ) × (rest : List (List ℕ)) × (ws ≡ w ∷ rest) × ((c : Command) → w ≢ command_word c)
WordsRefused ws WordCount = (c : Command) × (rest : List (List ℕ)) × (ws ≡ command_word c ∷ rest) × ((row : List Kind) → OneOf row (takes c) → Fits row rest → ⊥)
WordsRefused ws UnknownEngine = (w : List ℕ) × ReadAs engine_kind ws w × ((c : CipherName) → w ≢ cipher_word c)
WordsRefused ws (BadHex e) = (w : List ℕ) × ReadAs octets_kind ws w × HexRefused w e × (e ≢ NoMemoryForHex)
WordsRefused ws BadNumber = (w : List ℕ) × ReadAs number_kind ws w × ((n : ℕ) → DecimalOf w n → ⊥)
WordsRefused ws BadWord32 = (w : List ℕ) × ReadAs word32_kind ws w × ((n : ℕ) → Word32Of w n → ⊥)
WordsRefused ws PartWord = (w : List ℕ) × (xs : List ℕ) × (ws ≡ codes "column" ∷ w ∷ []) × HexOf w xs × (length xs % 4 ≢ 0)
WordsRefused ws NoMemory = Unit {0}

-- the line does not begin with `say` and a space
abbrev pub Unquoted : List ℕ → Type 0
Unquoted line = (text : List ℕ) → line ≢ codes "say " ++ text

-- what a line says: after `say` and a space, to send the text as it stands; else what its words say
abbrev pub Says : List ℕ → Line → Type 0
Says line l = ((v : _) × (l ≡ Send v) × (line ≡ codes "say " ++ vec_items v)) ⊎ (Unquoted line × WordsSay (words_of line) l)

-- what holds of a line where it is refused
abbrev pub Unsaid : List ℕ → LineFault → Type 0
Unsaid line e = (e ≡ NoMemory) ⊎ (Unquoted line × WordsRefused (words_of line) e)
