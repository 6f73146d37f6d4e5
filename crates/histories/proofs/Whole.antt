-- The promise, whole, from what the calls answered.
use Rattle.std.proofs.Common.{ℕ, ◌+◌, ◌≤◌, List, None}
use Rattle.stream.specs.Ciphers.{Cipher}
use Rattle.marks.specs.Stores.{largest_mark}
use Rattle.histories.specs.Calls.{Entry, Event}
use Rattle.histories.specs.Histories.{Marks, mark, left, Sender, at_rest, History, Receiver, receiver, Received}
use Rattle.histories.specs.Promises.{Promise, sessions}
use Rattle.histories.proofs.Sessions.{history_claim}
use Rattle.histories.proofs.Sent.{all_covered, distinct_octets}
use Rattle.histories.proofs.Opened.{all_open}

pub promised : (c d : Cipher) (w : ℕ) (entries : List Entry) (events : List Event) (s : Marks) (t : Sender c) (x : d.State) (u : Receiver d)
    → mark s + left s ≤ largest_mark → History c w (at_rest s) entries t → Received d (receiver None None 0 x) events u → Promise c d entries events
promised c d w entries events s t x u bound sent received =
    let (good, rise, inside) = history_claim c w entries (at_rest s) t sent bound in
    record {
      covered = all_covered c (sessions entries) good;
      once = distinct_octets (mark s) (sessions entries) rise;
      inside = inside;
      opens = λ one. all_open c d one (sessions entries) good events x u received;
    }
