-- What is replied to words.
use Rattle.std.specs.Prelude.{◌≡◌, ℕ, ◌⊎◌, List, Ok, Err, Result, string_bytes, codes, String}
use Rattle.workshop.specs.Messages.{fault_text}
use Rattle.workshop.specs.Requests.{Asked, RequestRefused}
use Rattle.workshop.specs.declared.fault.Fault.{Fault as RequestFault}
use Rattle.workshop.specs.declared.request.Request.{Request}
use Rattle.keystreams.specs.Answers.{Answered, AnswerRefused}
use Rattle.keystreams.specs.Named.{cipher_of}
use Rattle.keystreams.specs.Texts.{report_text, fault_line}
use Rattle.keystreams.specs.declared.fault.Fault.{Fault}
use Rattle.keystreams.specs.declared.replies.Complaint.{Complaint}
use Rattle.keystreams.specs.declared.replies.Complaint.TheVariants.{Line, NoMemory}
use Rattle.keystreams.specs.declared.report.Report.{Report}

-- a report that answers the request that the words make; or the line of what is wrong with the words, or of why their request has no answer
abbrev pub Replied : {Y Z : Type 0} → List (String Y) → Result (String Z) Complaint → Type 0
Replied ws (Ok text) =
    (q : Request) × Asked ws q × ((r : Report) × Answered (cipher_of q.cipher) q r × (string_bytes text ≡ report_text q r))
Replied ws (Err (Line line)) =
    ((f : RequestFault) × RequestRefused ws f × (string_bytes line ≡ fault_text f))
    ⊎ ((q : Request) × Asked ws q × ((f : Fault) × AnswerRefused (cipher_of q.cipher) q f × (string_bytes line ≡ fault_line q f)))
Replied ws (Err NoMemory) = Unit {0}

-- what is printed for a complaint
abbrev pub complaint_text : Complaint → List ℕ
complaint_text (Line line) = string_bytes line
complaint_text NoMemory = codes "memory allocation failed"
