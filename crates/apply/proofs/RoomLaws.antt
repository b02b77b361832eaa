-- What the buffers have room for, and where the larger ones are asked for.
use Rattle.std.specs.Prelude.{Result}
use Rattle.std.proofs.Common.{Option, Some, None}
use Rattle.std.proofs.Common.{◌≡◌, ℕ, ◌≤◌, Bool, true, false, ◌||◌, ltb, List, length, take}
use Rattle.std.proofs.Common.{drop, sym, refl, ap, ◌∙◌, subst, arith}
use Rattle.laws.proofs.Logic.{true≠false, pick_elim}
use Rattle.rules.specs.declared.model.Refusal.{Refusal}
use Rattle.answer.specs.declared.reply.Reply.{Reply}
use Rattle.answer.specs.declared.reply.Ask.{Ask}
use Rattle.answer.specs.Asks.{run_read, find_of, second_space, find_read, ask_read, ask_of}
use Rattle.answer.specs.Replies.{ask_in_range}
use Rattle.answer.specs.Calls.{CallIs, FreshIs}
use Rattle.answer.specs.Says.{AnswerIs}
use Rattle.answer.specs.Unheard.{UnheardIs}
use Rattle.answer.specs.Ample.{Ample, TooLong}
use Rattle.answer.proofs.Enough.{short-only, call_ample, fresh_ample, unheard_ample}
use Rattle.lines.specs.declared.Line.{Line}
use Rattle.lines.specs.Read.{read_line, read_one}
use Rattle.print.specs.Bytes.{bytes}
use Rattle.lines.specs.Printed.{in_range}
use Rattle.lines.proofs.Ranges.{none_out, read-range}
use Rattle.apply.specs.declared.buffers.Job.{Job}
use Rattle.apply.specs.declared.raw.Done.{Done}
use Rattle.streams.specs.declared.status.Status.{Status}
use Rattle.apply.specs.Room.{Room, LineRoom, JobFits, OnLarger}

-- ---- buffers of the same lengths have the same room

pub room_as : {last : Bool} {m x y k m' x' y' k' : ℕ} → m' ≡ m → x' ≡ x → y' ≡ y → k' ≡ k
    → Room last m x y k → Room last m' x' y' k'
room_as {last} {m} {x} {y} {k} {m'} {x'} {y'} e f g h r =
    subst (λ (i : ℕ). Room last m' x' y' i) (sym h) (subst (λ (i : ℕ). Room last m' x' i k) (sym g)
    (subst (λ (i : ℕ). Room last m' i y k) (sym f)
    (subst (λ (i : ℕ). Room last i x y k) (sym e) r)))

pub line_as : {last : Bool} {h h' : ℕ} → h' ≡ h → LineRoom last h → LineRoom last h'
line_as {last} e r = subst (λ (i : ℕ). LineRoom last i) (sym e) r

-- the smaller set need not have it
pub small-room : {m x y k : ℕ} → Room false m x y k
small-room = record {
  site = λ e. absurd (true≠false (sym e));
  text = λ e. absurd (true≠false (sym e));
}

pub small_line : {h : ℕ} → LineRoom false h
small_line = record { held = λ e. absurd (true≠false (sym e)) }

-- ---- a line that has no room

pub too_long : {line xs ls o p : List ℕ} {last : Bool} {t : Option ℕ} {m : ℕ}
    → Room last m (length xs) (length ls) (length o) → last ≡ true → AnswerIs line m xs ls o t p
    → t ≡ None → TooLong line
too_long {line} {xs} {ls} {o} {p} {m = m} r e w q =
    short-only (r.site e) (r.text e) (subst (λ (t : Option ℕ). AnswerIs line m xs ls o t p) q w)

-- ---- where larger buffers are asked for

pub on_larger : (P Q : ℕ → Type 0) (d : Done) → ((k : ℕ) → P k → Q k) → OnLarger P d → OnLarger Q d
on_larger P Q (Done.Larger n) f h = f n h
on_larger P Q (Done.Status s) f h = tt

pub on_status : (P : ℕ → Type 0) {d : Done} {s : Status} → d ≡ Done.Status s → OnLarger P d
on_status P e = subst (λ (d : Done). OnLarger P d) (sym e) tt

pub larger_is : (P : ℕ → Type 0) {d : Done} {k : ℕ} → OnLarger P d → d ≡ Done.Larger k → P k
larger_is P h e = subst (λ (d : Done). OnLarger P d) e h

-- not where there is room for every site and the image is whole
pub call_fits : {l : Ask} {n k m : ℕ} {xs ls o p : List ℕ} {c : Option (Reply × ℕ)}
    → ask_in_range l ≡ true
    → length o ≡ m → n ≤ length o → CallIs l n xs ls o c p → c ≡ None
    → Ample m (length xs) (length ls) → k ≡ m
call_fits {l} {n} {xs = xs} {ls} {o} {p} r e h w s a =
    let long = call_ample r (subst (λ (i : ℕ). Ample i (length xs) (length ls)) (sym e) a)
    (subst (λ (d : Option (Reply × ℕ)). CallIs l n xs ls o d p) s w) in
    absurd (omega arith)

pub fresh-fits : {n J L k : ℕ} {xs ls o p : List ℕ} {c : Option (Reply × ℕ)}
    → FreshIs n J L xs ls o c p
    → c ≡ None → Ample (length o) (length xs) (length ls) → k ≡ length o
fresh-fits {n} {J} {L} {xs = xs} {ls} {o} {p} w s a =
    absurd (fresh_ample a (subst (λ (d : Option (Reply × ℕ)). FreshIs n J L xs ls o d p) s w))

pub unheard-fits : {c k m : ℕ} {im xs ls : List ℕ} {s : Option (Result ℕ Refusal)}
    → UnheardIs c im xs ls s
    → s ≡ None → Ample m (length xs) (length ls) → k ≡ m
unheard-fits {c} {im = im} {xs} {ls} w e a =
    absurd (unheard_ample a (subst (λ (d : Option (Result ℕ Refusal)). UnheardIs c im xs ls d) e w))

pub job_call : {j : Job} {l : Ask} → JobFits j → j ≡ Job.Call l → ask_in_range l ≡ true
job_call h e = subst (λ (j : Job). JobFits j) e h

find-range : (t : List ℕ) → ask_in_range (find_read t) ≡ true
unfolding find_read
find-range t =
    pick_elim (λ (a : Ask). ask_in_range a ≡ true) (ltb (length t) 5 || ltb 64 (length t))
    (λ e. none_out)
    (λ e. found (read_one (bytes "find ") (take (second_space t) t))
    (read_one (bytes " ") (drop (second_space t) t)))
  where
    found : (c left : Option ℕ) → ask_in_range (find_of c left) ≡ true
    found (Some c) (Some left) = refl
    found (Some c) None = none_out
    found None left = none_out

-- what was read has numbers in range
pub ask_range : (s : List ℕ) {l : Ask} → l ≡ ask_of s → ask_in_range l ≡ true
ask_range s {l} e = ap ask_in_range e ∙ go (read_line s) refl
  where
    ran : (o : Option ℕ) → ask_in_range (run_read o (find_read s)) ≡ true
    ran (Some steps) = refl
    ran None = find-range s

    go : (k : Line) → read_line s ≡ k → ask_in_range (ask_read k s) ≡ true
    go (Line.Site n J L) q = read-range s (sym q)
    go (Line.Call d) q = read-range s (sym q)
    go (Line.Holds c k left right) q = read-range s (sym q)
    go Line.Unreadable q = ran (read_one (bytes "run ") s)

pub line-range : {l : Ask} {k : Line} → ask_in_range l ≡ true → l ≡ Ask.Line k → in_range k ≡ true
line-range h e = subst (λ (m : Ask). ask_in_range m ≡ true) e h
