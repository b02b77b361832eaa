-- Nothing else could satisfy the statements: two results of one exported call are the same.
use Prim.Native.Nat.{ℕ}
use mathlib.Core.Path.{◌≡◌, refl, sym, ap, ◌∙◌}
use mathlib.Core.Bool.{true}
use mathlib.Core.List.{List}
use Rattle.rules.specs.Numbers.{answer_number}
use Rattle.rules.specs.Answers.{is_refusal}
use Rattle.rules.specs.Own.{OwnOutcome}
use Rattle.rules.specs.declared.model.Call.{Call}
use Rattle.rules.specs.declared.model.Refusal.{Refusal}
use Rattle.rules.specs.declared.model.Setting.{Setting}
use Rattle.site.specs.Entries.{step_on, fresh_on}
use Rattle.site.proofs.Once.{Same, once}
use Rattle.row.specs.Row.{box_of}
use Rattle.own.specs.Entry.{row_of}
use Rattle.own.proofs.Firm.{Alike, alike, same-box, same_row}
use Rattle.writer.specs.Writer.{Written}
use Rattle.writer.proofs.Once.{write_once, length-once}
use Rattle.reader.proofs.Once.{read-once}
use Rattle.reader.proofs.Once as reader
use Rattle.journal.specs.Numbered.{Stepped, Freshened, Alone, ToldAlone}
use Rattle.journal.specs.Images.{LengthAnswered, WriteAnswered, ReadAnswered}
use Rattle.agreed.specs.declared.Listed.{Listed}
use Rattle.journal.specs.Answered.{number_of, or_before}
use Rattle.journal.specs.Longer.{listed, AgreedAnswered}
use Rattle.journal.specs.Unheard.{UnheardAnswered}
use Rattle.std.specs.Prelude.{Option, Result}
use Rattle.journal.specs.Find.{found_number, FindAnswered}
use Rattle.until.specs.Until.{run_on}
use Rattle.until.proofs.Once as until
use Rattle.journal.specs.Run.{run_number, run_used, RunAnswered}

pub stepped-once : {d : Call} {xs ls ys ms zs ns : List ℕ} {r q : ℕ}
    → Stepped d xs ls ys ms r → Stepped d xs ls zs ns q
    → (r ≡ q) × Same ys ms zs ns (step_on xs ls d).answer (step_on xs ls d).answer
stepped-once p q = (p.number ∙ sym q.number, once p.after q.after)

pub fresh-once : {n J L : ℕ} {xs ls ys ms zs ns : List ℕ} {r q : ℕ}
    → Freshened n J L xs ls ys ms r → Freshened n J L xs ls zs ns q
    → (r ≡ q) × Same ys ms zs ns (fresh_on xs ls n J L).answer (fresh_on xs ls n J L).answer
fresh-once p q = (p.number ∙ sym q.number, once p.made.after q.made.after)

pub alone-once : {s : Setting} {o : OwnOutcome} {x out y ot z op : List ℕ} {to t u r q : ℕ}
    → Alone s o x out y ot to t r → Alone s o x out z op to u q
    → (r ≡ q) × (t ≡ u) × Alike s y ot o.answer o.to z op o.answer o.to
alone-once {s} {o} p q = (
  p.number ∙ sym q.number,
  p.set ∙ sym q.set,
  alike s o o refl p.owned q.owned,
)

pub told-once : {n J : ℕ} {o : OwnOutcome} {x y z : List ℕ} {r q : ℕ}
    → ToldAlone n J o x y r → ToldAlone n J o x z q
    → (r ≡ q) × (box_of n (row_of J y) ≡ box_of n (row_of J z))
    × (is_refusal o.answer ≡ true → y ≡ z)
told-once {n} {J} {o} p q = (
  p.number ∙ sym q.number,
  same-box n J o p.told q.told,
  same_row n J o p.told q.told,
)

pub unheard-once : {u : Result ℕ Refusal} {w t v r q : ℕ} → UnheardAnswered u w t r
    → UnheardAnswered u w v q → (r ≡ q) × (t ≡ v)
unheard-once {w = w} p q =
    let e = p.is ∙ sym q.is in (
      p.number ∙ ap number_of e ∙ sym q.number,
      p.set ∙ ap (λ u. or_before u w) e ∙ sym q.set,
    )

pub agreed-once : {a : Result Listed Refusal} {f p m g k n h l o r q : ℕ}
    → AgreedAnswered a f p m g k n r
    → AgreedAnswered a f p m h l o q → (r ≡ q) × (g ≡ h) × (k ≡ l) × (n ≡ o)
agreed-once {f = f} {p = p} {m = m} u v =
    let e = u.is ∙ sym v.is in (
      u.number ∙ ap number_of e ∙ sym v.number,
      u.first ∙ ap (λ a. (or_before a (listed f p m)).first) e ∙ sym v.first,
      u.place ∙ ap (λ a. (or_before a (listed f p m)).place) e ∙ sym v.place,
      u.many ∙ ap (λ a. (or_before a (listed f p m)).count) e ∙ sym v.many,
    )

pub find-once : {w : Result (Option ℕ) Refusal} {k t v r q : ℕ} → FindAnswered w k t r
    → FindAnswered w k v q
    → (r ≡ q) × (t ≡ v)
find-once {k = k} p q =
    let e = p.is ∙ sym q.is in (
      p.number ∙ ap number_of e ∙ sym q.number,
      p.load ∙ ap (λ w. found_number w k) e ∙ sym q.load,
    )

pub run-once : {steps : ℕ} {xs ls ys ms zs ns : List ℕ} {u t v r q : ℕ}
    → (p : RunAnswered steps xs ls ys ms u t r) → (h : RunAnswered steps xs ls zs ns u v q)
    → (r ≡ q) × (t ≡ v)
    × until.Same (run_on xs ls steps).next ys ms zs ns p.answer h.answer
run-once {u = u} p h =
    let e = until.once p.after h.after in (
      p.number ∙ ap run_number e.answer ∙ sym h.number,
      p.used ∙ ap (λ a. run_used a u) e.answer ∙ sym h.used,
      e,
    )

-- the number and the length of one answer
same-written : {a b : Written} (len : ℕ) {t u r q : ℕ} → a ≡ b → r ≡ number_of a
    → q ≡ number_of b → t ≡ or_before a len → u ≡ or_before b len
    → (r ≡ q) × (t ≡ u)
same-written len e f g h k = (
  f ∙ ap number_of e ∙ sym g,
  h ∙ ap (λ w. or_before w len) e ∙ sym k,
)

pub image-length-once : {xs ls : List ℕ} {len t u r q : ℕ} → LengthAnswered xs ls len t r
    → LengthAnswered xs ls len u q → (r ≡ q) × (t ≡ u)
image-length-once {len = len} p q =
    same-written len (length-once p.is q.is) p.number q.number p.length q.length

pub written_once : {xs ls o y z : List ℕ} {len t u r q : ℕ} → WriteAnswered xs ls o y len t r
    → WriteAnswered xs ls o z len u q → (y ≡ z) × (r ≡ q) × (t ≡ u)
written_once {len = len} p q =
    let e = write_once p.is q.is in
    let w = same-written len e.0 p.number q.number p.length q.length in
    (e.1, w.0, w.1)

pub read-answered-once : {bytes xs ls ys ks zs ms : List ℕ} {r q : ℕ}
    → (p : ReadAnswered bytes xs ls ys ks r) → (h : ReadAnswered bytes xs ls zs ms q)
    → (r ≡ q) × reader.Same p.answer h.answer ys ks zs ms
read-answered-once p h =
    let e = read-once p.is h.is in
    (p.number ∙ ap answer_number e.answer ∙ sym h.number, e)
