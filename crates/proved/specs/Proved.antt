-- Document 01's cases marked P, in one table: what is handed in, and what comes of it. Bytes are hexadecimal.
use Rattle.std.specs.Prelude.{◌≡◌, List, [], ◌∷◌, ◌++◌, ℕ, ◌-◌, ℤ, pos, negsuc, length, replicate, take, Some, Ok}
use Rattle.aggregate.specs.Serving.{served_of, log_of}
use Rattle.aggregate.specs.Running.{ran_of, answers_of, run_log_of}
use Rattle.aggregate.specs.Told.{Outcome as Answer, Ran}
use Rattle.aggregate.specs.declared.Totals.{Totals}
use Rattle.messages.specs.Records.{bits_of}
use Rattle.messages.specs.Reading.{Entry, entry_at, messages_from}
use Rattle.messages.specs.Writing.{log_after}
use Rattle.messages.specs.declared.Message.{Message}
use Rattle.messages.specs.declared.Message.TheVariants.{Probe, Response, Update, Release}
use Rattle.requests.specs.Reading.{requests_of, judged_of}
use Rattle.requests.specs.Reading.{refused as list_refused}
use Rattle.requests.specs.Told.{Judged}
use Rattle.requests.specs.declared.Request.{Request}
use Rattle.requests.specs.declared.Request.TheVariants.{Combine, Write}
use Rattle.session.specs.Starting.{fresh_of}
use Rattle.session.specs.declared.Session.{Session}
use Rattle.table.specs.Reading.{accepted, refused, reading_of}
use Rattle.table.specs.Told.{Reading}
use Rattle.tree.specs.declared.Tree.{Tree}

pub data Input : Type 0 where
  -- the bytes of a table, read
  table : List ℕ → Input
  -- the bytes of a list, judged
  list : List ℕ → Input
  -- the bytes of an accepted list, read
  requests : List ℕ → Input
  -- a message written from bit 0 of so many zero bytes, and read back
  log : ℕ → Message → Input
  -- requests served one by one, from a fresh session of a tree on, each logged from bit 0 of 64 bytes
  session : Tree → List Request → Input
  -- the bytes of a list, run in one call on a fresh session of a tree: so many answer places, and a log of so many bytes, all zero
  run : Tree → List ℕ → ℕ → ℕ → Input

-- what a request answers, and the messages that are read from the log that it leaves
pub record Reply : Type 0 where
  pub answer : Answer
  pub logged : List Message

-- what is held at the end of each pair, at the child's place: lease numbers and messages to the parent, then to the child
pub record Holding : Type 0 where
  pub up_leases : List ℕ
  pub up_messages : List ℕ
  pub down_leases : List ℕ
  pub down_messages : List ℕ

pub data Outcome : Type 0 where
  reads : Reading → Outcome
  judges : Judged → Outcome
  asks : List Request → Outcome
  logs : List ℕ → Entry → Outcome
  serves : List Reply → Holding → Outcome
  runs : ℕ → ℕ → Totals → List ℤ → List Message → Holding → Outcome

-- a log of so many zero bytes
abbrev pub empty : ℕ → List ℕ
empty n = replicate n 0

abbrev pub replied : Session → Request → Reply
replied s r =
    record {
      answer = (served_of s r 64 0).outcome;
      logged = messages_from (served_of s r 64 0).outcome.next (log_of s r (empty 64) 0) 0 (served_of s r 64 0).outcome.next;
    }

unfoldable pub replies : Session → List Request → List Reply
replies s [] = []
replies s (r ∷ rs) = replied s r ∷ replies (served_of s r 64 0).session rs

unfoldable pub end : Session → List Request → Session
end s [] = s
end s (r ∷ rs) = end (served_of s r 64 0).session rs

abbrev pub held : Session → Holding
held s =
    record {
      up_leases = take s.tree.count s.up.lease;
      up_messages = take s.tree.count s.up.messages;
      down_leases = take s.tree.count s.down.lease;
      down_messages = take s.tree.count s.down.messages;
    }

-- what a run answers, its answer places, the messages that are read from the log that it leaves, and what is held at the end
abbrev pub ran : Ran → List ℤ → List ℕ → Outcome
ran r answers left = runs r.refusal r.index r.totals answers (messages_from r.totals.next left 0 r.totals.next) (held r.session)

abbrev pub outcome : Input → Outcome
outcome (table s) = reads (reading_of s)
outcome (list s) = judges (judged_of s)
outcome (requests s) = asks (requests_of s)
outcome (log n m) = logs (log_after (empty n) 0 m) (entry_at (log_after (empty n) 0 m) 0 (bits_of m))
outcome (session t rs) = serves (replies (fresh_of t) rs) (held (end (fresh_of t) rs))
outcome (run t bytes places n) =
    ran (ran_of (fresh_of t) bytes (replicate places (pos 0)) (empty n) 0) (answers_of (fresh_of t) bytes (replicate places (pos 0)) (empty n) 0) (run_log_of (fresh_of t) bytes (replicate places (pos 0)) (empty n) 0)

-- an accepted request: its answer, its messages, the next place
abbrev pub answered : ℤ → List Message → ℕ → Reply
answered z ms next = record { answer = record { refusal = 0; answer = z; messages = length ms; next = next }; logged = ms }

-- a tree by its parents from node 0 on
abbrev pub grown : List ℕ → Tree
grown ps = record { count = length ps; parents = ps ++ replicate (256 - length ps) 0 }

pub record Case : Type 0 where
  pub input : Input
  pub output : Outcome

-- the bytes of the path's list
abbrev pub path_list : List ℕ
path_list = 0x00 ∷ 0x30 ∷ 0x02 ∷ 0x04 ∷ 0x00 ∷ 0x00 ∷ 0x00 ∷ 0x0A ∷ 0x00 ∷ 0x81 ∷ 0x00 ∷ 0x00 ∷ 0x00 ∷ 0x03 ∷ 0xC0 ∷ 0x80 ∷ 0x00 ∷ 0x00 ∷ 0x02 ∷ 0x40 ∷ 0x00 ∷ []

-- the star of four: combine at 1, write 4 at 2, combine at 0, write 1 at 3
abbrev pub star : Case
star =
    record {
      input = session (grown (0 ∷ 0 ∷ 0 ∷ 0 ∷ [])) (Combine 1 ∷ Write 2 (pos 4) ∷ Combine 0 ∷ Write 3 (pos 1) ∷ []);
      output =
          serves
          (answered (pos 0) (Probe 1 0 ∷ Probe 0 2 ∷ Response 2 0 (pos 0) ∷ Probe 0 3 ∷ Response 3 0 (pos 0) ∷ Response 0 1 (pos 0) ∷ []) 228
          ∷ answered (pos 0) (Update 2 0 (pos 4) ∷ Update 0 1 (pos 4) ∷ []) 116
          ∷ answered (pos 4) (Probe 0 1 ∷ Response 1 0 (pos 0) ∷ []) 76
          ∷ answered (pos 0) (Update 3 0 (pos 1) ∷ Update 0 1 (pos 5) ∷ Release 1 0 ∷ []) 134
          ∷ [])
          (record { up_leases = 0 ∷ 2 ∷ 2 ∷ 1 ∷ []; up_messages = 0 ∷ 2 ∷ 3 ∷ 3 ∷ []; down_leases = 0 ∷ 0 ∷ 0 ∷ 0 ∷ []; down_messages = 0 ∷ 5 ∷ 0 ∷ 0 ∷ [] });
    }

-- the path: combine at 0, write 5 at 2, combine at 0, write 7 and 9 at 2, combine at 0
abbrev pub path : Case
path =
    record {
      input = session (grown (0 ∷ 0 ∷ 1 ∷ [])) (Combine 0 ∷ Write 2 (pos 5) ∷ Combine 0 ∷ Write 2 (pos 7) ∷ Write 2 (pos 9) ∷ Combine 0 ∷ []);
      output =
          serves
          (answered (pos 0) (Probe 0 1 ∷ Probe 1 2 ∷ Response 2 1 (pos 0) ∷ Response 1 0 (pos 0) ∷ []) 152
          ∷ answered (pos 0) (Update 2 1 (pos 5) ∷ Update 1 0 (pos 5) ∷ []) 116
          ∷ answered (pos 5) [] 0
          ∷ answered (pos 0) (Update 2 1 (pos 7) ∷ Update 1 0 (pos 7) ∷ []) 116
          ∷ answered (pos 0) (Update 2 1 (pos 9) ∷ Update 1 0 (pos 9) ∷ Release 0 1 ∷ Release 1 2 ∷ []) 152
          ∷ answered (pos 9) (Probe 0 1 ∷ Probe 1 2 ∷ Response 2 1 (pos 9) ∷ Response 1 0 (pos 9) ∷ []) 152
          ∷ [])
          (record { up_leases = 0 ∷ 2 ∷ 2 ∷ []; up_messages = 0 ∷ 8 ∷ 8 ∷ []; down_leases = 0 ∷ 0 ∷ 0 ∷ []; down_messages = 0 ∷ 0 ∷ 0 ∷ [] });
    }

-- the path's list, run in one call: the answers 0, 5 and 9, and 16 messages of 688 bits
abbrev pub path_in_one_call : Case
path_in_one_call =
    record {
      input = run (grown (0 ∷ 0 ∷ 1 ∷ [])) path_list 3 86;
      output =
          runs 0 0
          (record { requests = 6; answers = 3; messages = 16; next = 688 })
          (pos 0 ∷ pos 5 ∷ pos 9 ∷ [])
          (Probe 0 1 ∷ Probe 1 2 ∷ Response 2 1 (pos 0) ∷ Response 1 0 (pos 0)
          ∷ Update 2 1 (pos 5) ∷ Update 1 0 (pos 5)
          ∷ Update 2 1 (pos 7) ∷ Update 1 0 (pos 7)
          ∷ Update 2 1 (pos 9) ∷ Update 1 0 (pos 9) ∷ Release 0 1 ∷ Release 1 2
          ∷ Probe 0 1 ∷ Probe 1 2 ∷ Response 2 1 (pos 9) ∷ Response 1 0 (pos 9)
          ∷ [])
          (record { up_leases = 0 ∷ 2 ∷ 2 ∷ []; up_messages = 0 ∷ 8 ∷ 8 ∷ []; down_leases = 0 ∷ 0 ∷ 0 ∷ []; down_messages = 0 ∷ 0 ∷ 0 ∷ [] });
    }

unfoldable pub cases : List Case
cases =
    -- one node; nodes 0-1-2 in a path; node 0 with children 1, 2, 3
    record { input = table (0x00 ∷ 0x80 ∷ []); output = reads (accepted (grown (0 ∷ []))) }
    ∷ record { input = table (0x01 ∷ 0xC0 ∷ []); output = reads (accepted (grown (0 ∷ 0 ∷ 1 ∷ []))) }
    ∷ record { input = table (0x02 ∷ 0x00 ∷ []); output = reads (accepted (grown (0 ∷ 0 ∷ 0 ∷ 0 ∷ []))) }
    -- a parent that is not smaller; no bytes; no nodes; 257 nodes; a filling bit
    ∷ record { input = table (0x02 ∷ 0x30 ∷ []); output = reads (refused 3) }
    ∷ record { input = table []; output = reads (refused 1) }
    ∷ record { input = table (0x00 ∷ 0x00 ∷ []); output = reads (refused 2) }
    ∷ record { input = table (0x80 ∷ 0x80 ∷ []); output = reads (refused 2) }
    ∷ record { input = table (0x00 ∷ 0xC0 ∷ []); output = reads (refused 4) }
    -- an empty list; a write of 5 at node 2; 4,097 requests
    ∷ record { input = list (0x00 ∷ 0x00 ∷ []); output = judges (record { refusal = 0; requests = 0; combines = 0; first = 13 }) }
    ∷ record { input = requests (0x00 ∷ 0x00 ∷ []); output = asks [] }
    ∷ record { input = list (0x00 ∷ 0x0C ∷ 0x08 ∷ 0x00 ∷ 0x00 ∷ 0x00 ∷ 0x14 ∷ []); output = judges (record { refusal = 0; requests = 1; combines = 0; first = 13 }) }
    ∷ record { input = requests (0x00 ∷ 0x0C ∷ 0x08 ∷ 0x00 ∷ 0x00 ∷ 0x00 ∷ 0x14 ∷ []); output = asks (Write 2 (pos 5) ∷ []) }
    ∷ record { input = list (0x80 ∷ 0x08 ∷ []); output = judges (list_refused 5) }
    -- a probe from 0 to 1; a response from 1 to 0 with -1
    ∷ record { input = log 3 (Probe 0 1); output = logs (0x00 ∷ 0x00 ∷ 0x40 ∷ []) (Ok (Some (Probe 0 1, 18))) }
    ∷ record { input = log 8 (Response 1 0 (negsuc 0)); output = logs (0x40 ∷ 0x40 ∷ 0x3F ∷ 0xFF ∷ 0xFF ∷ 0xFF ∷ 0xFF ∷ 0xC0 ∷ []) (Ok (Some (Response 1 0 (negsuc 0), 58))) }
    ∷ star
    -- the path's list, judged and read
    ∷ record { input = list path_list; output = judges (record { refusal = 0; requests = 6; combines = 3; first = 13 }) }
    ∷ record { input = requests path_list; output = asks (Combine 0 ∷ Write 2 (pos 5) ∷ Combine 0 ∷ Write 2 (pos 7) ∷ Write 2 (pos 9) ∷ Combine 0 ∷ []) }
    ∷ path
    ∷ path_in_one_call
    ∷ []

-- these come out as they should
abbrev pub Hold : List Case → Type 0
Hold [] = Unit
Hold (c ∷ cs) = (outcome c.input ≡ c.output) × Hold cs

-- All come out as document 01 says.
abbrev pub AllHold : Type 0
AllHold = Hold cases
