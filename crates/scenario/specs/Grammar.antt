-- The words of a line: the first says what is to follow it.
use Rattle.std.specs.Prelude.{◌≡◌, ℕ, ◌⊎◌, List, [], ◌∷◌, map, string_bytes, codes}
use Rattle.scenario.specs.declared.command.Command.{Command}
use Rattle.scenario.specs.declared.command.Command.TheVariants.{Sender, Receiver, Strip, Column, Key, Label, Allowance, Room, Open, Close, Cut, Pair, Torn, Send, Say, Deliver, Alter, Noise}
use Rattle.scenario.specs.declared.values.CommandWords.{CommandWords}

-- the word of a command
abbrev pub command_word : Command → List ℕ
command_word Sender = codes "sender"
command_word Receiver = codes "receiver"
command_word Strip = codes "strip"
command_word Column = codes "column"
command_word Key = codes "key"
command_word Label = codes "label"
command_word Allowance = codes "allowance"
command_word Room = codes "room"
command_word Open = codes "open"
command_word Close = codes "close"
command_word Cut = codes "cut"
command_word Pair = codes "pair"
command_word Torn = codes "torn"
command_word Send = codes "send"
command_word Say = codes "say"
command_word Deliver = codes "deliver"
command_word Alter = codes "alter"
command_word Noise = codes "noise"

-- what a word after the first is to be: the name of an engine, a decimal number, octets in hexadecimal digits,
-- a number of 32 bits in 8 hexadecimal digits, or the word `fresh`
pub data Kind : Type 0 where
  engine_kind : Kind
  number_kind : Kind
  octets_kind : Kind
  word32_kind : Kind
  fresh_kind : Kind

-- what may follow the word of a command: one of these rows of words
abbrev pub takes : Command → List (List Kind)
takes Sender = (engine_kind ∷ []) ∷ []
takes Receiver = (engine_kind ∷ []) ∷ []
takes Strip = (octets_kind ∷ []) ∷ (fresh_kind ∷ number_kind ∷ []) ∷ []
takes Column = (octets_kind ∷ []) ∷ (fresh_kind ∷ number_kind ∷ []) ∷ []
takes Key = [] ∷ (octets_kind ∷ []) ∷ []
takes Label = [] ∷ (octets_kind ∷ []) ∷ []
takes Allowance = (number_kind ∷ []) ∷ []
takes Room = (number_kind ∷ []) ∷ []
takes Open = [] ∷ []
takes Close = [] ∷ []
takes Cut = [] ∷ []
takes Pair = [] ∷ []
takes Torn = (number_kind ∷ word32_kind ∷ []) ∷ []
takes Send = [] ∷ (octets_kind ∷ []) ∷ []
takes Say = [] ∷ []
takes Deliver = (number_kind ∷ []) ∷ []
takes Alter = (number_kind ∷ number_kind ∷ octets_kind ∷ []) ∷ []
takes Noise = [] ∷ (octets_kind ∷ []) ∷ []

-- the row is one of these
abbrev pub OneOf : List Kind → List (List Kind) → Type 0
OneOf row [] = ⊥
OneOf row (r ∷ rs) = (row ≡ r) ⊎ OneOf row rs

-- a word of the kind k may be w: any word, or `fresh` alone
abbrev pub Allows : Kind → List ℕ → Type 0
Allows engine_kind w = Unit {0}
Allows number_kind w = Unit {0}
Allows octets_kind w = Unit {0}
Allows word32_kind w = Unit {0}
Allows fresh_kind w = w ≡ codes "fresh"

-- there are as many words as the row has, with `fresh` where that is to stand
abbrev pub Fits : List Kind → List (List ℕ) → Type 0
Fits [] [] = Unit {0}
Fits [] (w ∷ ws) = ⊥
Fits (k ∷ row) [] = ⊥
Fits (k ∷ row) (w ∷ ws) = Allows k w × Fits row ws

-- among the words, w stands where the row has the kind k
abbrev pub InPlace : Kind → List ℕ → List Kind → List (List ℕ) → Type 0
InPlace k w [] ws = ⊥
InPlace k w (j ∷ row) [] = ⊥
InPlace k w (j ∷ row) (v ∷ ws) = ((j ≡ k) × (v ≡ w)) ⊎ InPlace k w row ws

-- among the words ws of a line, w is to be of the kind k
pub record ReadAs (k : Kind) (ws : List (List ℕ)) (w : List ℕ) : Type 0 where
  pub command : Command
  pub after : List (List ℕ)
  pub row : List Kind
  pub words : ws ≡ command_word command ∷ after
  pub taken : OneOf row (takes command)
  pub fits : Fits row after
  pub place : InPlace k w row after

-- the words of a line: that of a command, and those after it
abbrev pub line_words : CommandWords → List (List ℕ)
line_words c = command_word c.command ∷ map string_bytes c.rest.now
