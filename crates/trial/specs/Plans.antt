-- What each line of a scenario does to a plan.
use Rattle.std.specs.Prelude.{◌≡◌, ℕ, ◌+◌, ◌-◌, ◌*◌, ◌<◌, ◌≤◌, List, [], ◌∷◌, ◌++◌, length, replicate, vec_items, slice_index}
use Rattle.histories.specs.Calls.{Call, opening, torn_opening, sending, closing, power_cut}
use Rattle.runs.specs.Readings.{call_of}
use Rattle.runs.specs.declared.calls.SenderStep.{SenderStep}
use Rattle.runs.specs.declared.calls.ReceiverCall.{ReceiverCall}
use Rattle.runs.specs.declared.calls.ReceiverCall.TheVariants.{Pair as PairCall, Receive, Deliver as DeliverCall}
use Rattle.runs.specs.declared.calls.ReceiverStep.{ReceiverStep}
use Rattle.scenario.specs.declared.line.Line.{Line}
use Rattle.scenario.specs.declared.line.Line.TheVariants.{Blank, Sender, Receiver, Strip, FreshStrip, Column, FreshColumn, Key, Label, Allowance, Room, Open, Close, Cut, Pair, TornOpen, Send, Deliver, Alter, Noise}
use Rattle.texts.specs.declared.names.CipherName.{CipherName}
use Rattle.texts.specs.declared.names.CipherName.TheVariants.{Grain128Wide}
use Rattle.trial.specs.declared.memory.Memory.{Memory}
use Rattle.trial.specs.declared.memory.Memory.TheVariants.{Strip as StripMemory, Column as ColumnMemory}
use Rattle.trial.specs.declared.plan.Setup.{Setup}
use Rattle.trial.specs.declared.plan.Plan.{Plan}
use Rattle.trial.specs.declared.plan.Planned.{Planned}
use Rattle.trial.specs.declared.plan.Planned.TheVariants.{NoStep, Call as CallAt, Send as SendAt, Receipt as ReceiptAt}
use Rattle.trial.specs.declared.plan.PlanFault.{PlanFault}
use Rattle.trial.specs.declared.plan.PlanFault.TheVariants.{Late, NoSuchSend, NoMemory}

-- the words that octets write, four to a word, the most significant first
abbrev pub words_in : List ℕ → List ℕ
words_in [] = []
words_in (a ∷ []) = []
words_in (a ∷ b ∷ []) = []
words_in (a ∷ b ∷ c ∷ []) = []
words_in (a ∷ b ∷ c ∷ d ∷ rest) = (d + 256 * (c + 256 * (b + 256 * a))) ∷ words_in rest

-- a memory by its kind and what it holds
pub data Holding : Type 0 where
  octets : List ℕ → Holding
  words : List ℕ → Holding

abbrev pub holding : Memory → Holding
holding (StripMemory v) = octets (vec_items v)
holding (ColumnMemory v) = words (vec_items v)

-- Everything that is set, as names, numbers and octets.
pub record Settings : Type 0 where
  pub sender : CipherName
  pub receiver : CipherName
  pub memory : Holding
  pub key : List ℕ
  pub label : List ℕ
  pub allowance : ℕ
  pub room : ℕ

abbrev pub settings : Setup → Settings
settings s =
    record {
      sender = s.sender;
      receiver = s.receiver;
      memory = holding s.memory;
      key = vec_items s.pairing.key;
      label = vec_items s.pairing.label;
      allowance = s.pairing.allowance;
      room = s.room;
    }

-- what a call on a receiver asks for
pub data Asked : Type 0 where
  pairing : List ℕ → List ℕ → ℕ → Asked
  handing : List ℕ → Asked
  -- the frame that the call of this index on the sender wrote, with this change
  delivering : ℕ → List ℕ → Asked

abbrev pub asked : ReceiverCall → Asked
asked (PairCall p) = pairing (vec_items p.key) (vec_items p.label) p.allowance
asked (Receive v) = handing (vec_items v)
asked (DeliverCall call change) = delivering call (vec_items change)

-- one thing is set, and no step is asked for
pub record Sets (p q : Plan) (r : Planned) (s : Settings) : Type 0 where
  pub setup : settings q.setup ≡ s
  pub calls : q.calls ≡ p.calls
  pub receipts : q.receipts ≡ p.receipts
  pub sends : q.sends ≡ p.sends
  pub no_step : r ≡ NoStep

-- one more call on the sender is asked for, with a buffer of so many octets
pub record Calls (p q : Plan) (call : Call) (room : ℕ) : Type 0 where
  pub setup : q.setup ≡ p.setup
  pub step : SenderStep
  pub lends : length (vec_items step.out) ≡ room
  pub asks : call_of step.call room ≡ call
  pub added : vec_items q.calls ≡ vec_items p.calls ++ (step ∷ [])
  pub receipts : q.receipts ≡ p.receipts

-- a call that is no send
pub record CallsOnly (p q : Plan) (r : Planned) (call : Call) : Type 0 where
  pub calls : Calls p q call 0
  pub sends : q.sends ≡ p.sends
  pub at_index : r ≡ CallAt (length (vec_items p.calls))

-- a send, with its number among the lines that send
pub record Sends (p q : Plan) (r : Planned) (plain : List ℕ) (room : ℕ) : Type 0 where
  pub calls : Calls p q (sending plain room) room
  pub sends : vec_items q.sends ≡ vec_items p.sends ++ (length (vec_items p.calls) ∷ [])
  pub at_index : r ≡ SendAt (length (vec_items p.calls)) (length (vec_items q.sends))

-- one more call on the receiver is asked for, with a buffer of so many octets
pub record Receipts (p q : Plan) (r : Planned) (call : Asked) (room : ℕ) : Type 0 where
  pub setup : q.setup ≡ p.setup
  pub step : ReceiverStep
  pub lends : length (vec_items step.out) ≡ room
  pub asks : asked step.call ≡ call
  pub added : vec_items q.receipts ≡ vec_items p.receipts ++ (step ∷ [])
  pub calls : q.calls ≡ p.calls
  pub sends : q.sends ≡ p.sends
  pub at_index : r ≡ ReceiptAt (length (vec_items p.receipts))

-- no step is asked for yet
abbrev pub Unstarted : Plan → Type 0
Unstarted p = (vec_items p.calls ≡ []) × (vec_items p.receipts ≡ [])

-- A plan that no line was taken into: `grain128x32` at both ends, a fresh strip of 4 octets, neither key nor label, an allowance of 1,024 octets, and room for any frame.
pub record BlankPlan (p : Plan) : Type 0 where
  pub setup : settings p.setup ≡ record {
    sender = Grain128Wide;
    receiver = Grain128Wide;
    memory = octets (replicate 4 255);
    key = [];
    label = [];
    allowance = 1024;
    room = 1034;
  }
  pub unstarted : Unstarted p
  pub no_sends : vec_items p.sends ≡ []

-- the number, counted from 1, of a line that sends
abbrev pub Sent : Plan → ℕ → Type 0
Sent p n = (0 < n) × (n ≤ length (vec_items p.sends))

abbrev pub sent_by : Plan → ℕ → ℕ
sent_by p n = slice_index (vec_items p.sends) (n - 1)

module _ (p : Plan) (q : Plan) (r : Planned) where
  -- one thing set among the others, which stay
  abbrev pub SetsSender : CipherName → Type 0
  SetsSender n = let s = settings p.setup in
      Sets p q r (record { sender = n; receiver = s.receiver; memory = s.memory; key = s.key; label = s.label; allowance = s.allowance; room = s.room })

  abbrev pub SetsReceiver : CipherName → Type 0
  SetsReceiver n = let s = settings p.setup in
      Sets p q r (record { sender = s.sender; receiver = n; memory = s.memory; key = s.key; label = s.label; allowance = s.allowance; room = s.room })

  abbrev pub SetsMemory : Holding → Type 0
  SetsMemory m = let s = settings p.setup in
      Sets p q r (record { sender = s.sender; receiver = s.receiver; memory = m; key = s.key; label = s.label; allowance = s.allowance; room = s.room })

  abbrev pub SetsKey : List ℕ → Type 0
  SetsKey k = let s = settings p.setup in
      Sets p q r (record { sender = s.sender; receiver = s.receiver; memory = s.memory; key = k; label = s.label; allowance = s.allowance; room = s.room })

  abbrev pub SetsLabel : List ℕ → Type 0
  SetsLabel l = let s = settings p.setup in
      Sets p q r (record { sender = s.sender; receiver = s.receiver; memory = s.memory; key = s.key; label = l; allowance = s.allowance; room = s.room })

  abbrev pub SetsAllowance : ℕ → Type 0
  SetsAllowance n = let s = settings p.setup in
      Sets p q r (record { sender = s.sender; receiver = s.receiver; memory = s.memory; key = s.key; label = s.label; allowance = n; room = s.room })

  abbrev pub SetsRoom : ℕ → Type 0
  SetsRoom n = let s = settings p.setup in
      Sets p q r (record { sender = s.sender; receiver = s.receiver; memory = s.memory; key = s.key; label = s.label; allowance = s.allowance; room = n })

  -- What a line does. Engines and memory are set before the first step; a key, a label, an allowance and a room hold for the steps after them.
  abbrev pub Does : Line → Type 0
  Does Blank = Sets p q r (settings p.setup)
  Does (Sender n) = Unstarted p × SetsSender n
  Does (Receiver n) = Unstarted p × SetsReceiver n
  Does (Strip v) = Unstarted p × SetsMemory (octets (vec_items v))
  Does (FreshStrip n) = Unstarted p × SetsMemory (octets (replicate n 255))
  Does (Column v) = Unstarted p × SetsMemory (words (words_in (vec_items v)))
  Does (FreshColumn n) = Unstarted p × SetsMemory (words (replicate n 4294967295))
  Does (Key v) = SetsKey (vec_items v)
  Does (Label v) = SetsLabel (vec_items v)
  Does (Allowance n) = SetsAllowance n
  Does (Room n) = SetsRoom n
  Does Open = CallsOnly p q r (opening (vec_items p.setup.pairing.key) (vec_items p.setup.pairing.label) p.setup.pairing.allowance)
  Does Close = CallsOnly p q r closing
  Does Cut = CallsOnly p q r power_cut
  Does Pair = Receipts p q r (pairing (vec_items p.setup.pairing.key) (vec_items p.setup.pairing.label) p.setup.pairing.allowance) 0
  Does (TornOpen writes junk) = CallsOnly p q r (torn_opening (vec_items p.setup.pairing.key) (vec_items p.setup.pairing.label) p.setup.pairing.allowance writes junk)
  Does (Send v) = Sends p q r (vec_items v) p.setup.room
  Does (Deliver n) = Sent p n × Receipts p q r (delivering (sent_by p n) []) p.setup.room
  Does (Alter n at v) = Sent p n × Receipts p q r (delivering (sent_by p n) (replicate at 0 ++ vec_items v)) p.setup.room
  Does (Noise v) = Receipts p q r (handing (vec_items v)) p.setup.room

-- lines that set engines or memory, and lines that name a frame
abbrev pub SetsEnds : Line → Type 0
SetsEnds Blank = ⊥
SetsEnds (Sender n) = Unit {0}
SetsEnds (Receiver n) = Unit {0}
SetsEnds (Strip v) = Unit {0}
SetsEnds (FreshStrip n) = Unit {0}
SetsEnds (Column v) = Unit {0}
SetsEnds (FreshColumn n) = Unit {0}
SetsEnds (Key v) = ⊥
SetsEnds (Label v) = ⊥
SetsEnds (Allowance n) = ⊥
SetsEnds (Room n) = ⊥
SetsEnds Open = ⊥
SetsEnds Close = ⊥
SetsEnds Cut = ⊥
SetsEnds Pair = ⊥
SetsEnds (TornOpen writes junk) = ⊥
SetsEnds (Send v) = ⊥
SetsEnds (Deliver n) = ⊥
SetsEnds (Alter n at v) = ⊥
SetsEnds (Noise v) = ⊥

abbrev pub Names : Line → ℕ → Type 0
Names Blank k = ⊥
Names (Sender n) k = ⊥
Names (Receiver n) k = ⊥
Names (Strip v) k = ⊥
Names (FreshStrip n) k = ⊥
Names (Column v) k = ⊥
Names (FreshColumn n) k = ⊥
Names (Key v) k = ⊥
Names (Label v) k = ⊥
Names (Allowance n) k = ⊥
Names (Room n) k = ⊥
Names Open k = ⊥
Names Close k = ⊥
Names Cut k = ⊥
Names Pair k = ⊥
Names (TornOpen writes junk) k = ⊥
Names (Send v) k = ⊥
Names (Deliver n) k = n ≡ k
Names (Alter n at v) k = n ≡ k
Names (Noise v) k = ⊥

-- an engine or a memory was to be set after the first step
pub record TooLate (p q : Plan) (e : PlanFault) : Type 0 where
  pub late : e ≡ Late
  pub started : Unstarted p → ⊥
  pub same : q ≡ p

-- the plan holds what it held
pub record Unchanged (p q : Plan) : Type 0 where
  pub setup : q.setup ≡ p.setup
  pub calls : vec_items q.calls ≡ vec_items p.calls
  pub receipts : vec_items q.receipts ≡ vec_items p.receipts
  pub sends : vec_items q.sends ≡ vec_items p.sends

-- there was no memory for a step
pub record OutOfMemory (p q : Plan) (e : PlanFault) : Type 0 where
  pub no_memory : e ≡ NoMemory
  pub same : Unchanged p q

-- why a line is not taken; the plan holds what it held
abbrev pub NotTaken : Plan → Plan → Line → PlanFault → Type 0
NotTaken p q line Late = (Unstarted p → ⊥) × SetsEnds line × (q ≡ p)
NotTaken p q line NoSuchSend = (n : ℕ) × Names line n × (Sent p n → ⊥) × (q ≡ p)
NotTaken p q line NoMemory = Unchanged p q
