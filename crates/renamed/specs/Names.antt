-- Q-11, "Traces under the published step names": each word of a trace and its published name, the
-- one table for both ways. Our names are those that every reader of a trace goes by.
use Rattle.std.specs.Prelude.{ℕ, Bool, not, ◌&&◌, List, [], eqb, length}
use Rattle.rules.specs.Pick.{pick}
use Rattle.print.specs.Bytes.{bytes}
use Rattle.lines.specs.Table.{word_bytes, starts}
use Rattle.lines.specs.declared.Word.{Word}
use Rattle.renamed.specs.declared.names.Names.{Names}

-- "election, election_recover, send_collect, post_last, client_request, propose_pending,
-- post_accept, finish_commit, crash_mon, restore_mon and timeout_and_restart"; "handed-over mail is
-- written `receive a b`, and the site line stays"; "heard is published as post_lease_ack" (Q-12);
-- "lines that have no published name (lose, repeat, trim, holds)". As in `word_bytes`, the space
-- that ends a word belongs to its string; no string, no name.
abbrev pub published_bytes : Word → List ℕ
published_bytes Word.Site = bytes "site "
published_bytes Word.Elect = bytes "election "
published_bytes Word.Recover = bytes "election_recover "
published_bytes Word.Collect = bytes "send_collect "
published_bytes Word.Ready = bytes "post_last "
published_bytes Word.Offer = bytes "client_request "
published_bytes Word.Propose = bytes "propose_pending "
published_bytes Word.Agree = bytes "post_accept "
published_bytes Word.Finish = bytes "finish_commit "
published_bytes Word.Heard = bytes "post_lease_ack "
published_bytes Word.Trim = []
published_bytes Word.Stop = bytes "crash_mon "
published_bytes Word.Return = bytes "restore_mon "
published_bytes Word.Timeout = bytes "timeout_and_restart "
published_bytes Word.Lose = []
published_bytes Word.Repeat = []
published_bytes Word.Mail = bytes "receive "
published_bytes Word.Holds = []
published_bytes Word.Other = []

-- of our name and the published one
abbrev pub chosen : Names → List ℕ → List ℕ → List ℕ
chosen Names.Ours ours published = ours
chosen Names.Published ours published = published

abbrev pub name_bytes : Names → Word → List ℕ
name_bytes n w = chosen n (word_bytes w) (published_bytes w)

-- there is a name, and it stands at the start of s
abbrev pub is_named : List ℕ → Bool
is_named name = not (eqb (length name) 0)

abbrev pub is_name : List ℕ → List ℕ → Bool
is_name name s = is_named name && starts name s

-- the word w where its name stands at the start of s, and else v
abbrev pub or_name : Names → List ℕ → Word → Word → Word
or_name n s w v = pick (is_name (name_bytes n w) s) w v

-- "Each trace word is a fixed byte string compared at the start of a line": the word whose name
-- stands there
unfoldable pub word_in : Names → List ℕ → Word
word_in n s =
    or_name n s Word.Site
    (or_name n s Word.Elect
    (or_name n s Word.Recover
    (or_name n s Word.Collect
    (or_name n s Word.Ready
    (or_name n s Word.Offer
    (or_name n s Word.Propose
    (or_name n s Word.Agree
    (or_name n s Word.Finish
    (or_name n s Word.Heard
    (or_name n s Word.Trim
    (or_name n s Word.Stop
    (or_name n s Word.Return
    (or_name n s Word.Timeout
    (or_name n s Word.Lose
    (or_name n s Word.Repeat
    (or_name n s Word.Mail
    (or_name n s Word.Holds
    Word.Other)))))))))))))))))
