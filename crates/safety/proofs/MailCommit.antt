-- A Commit is taken: its records are agreed ones, and the leader counts them.
use Prim.Native.Nat.{ℕ, ◌+◌, ◌≤◌, max}
use mathlib.Core.Path.{◌≡◌, refl, sym, ◌∙◌}
use mathlib.Core.List.{List}
use native.Mathlib.Omega.{arith}
use lib.ListN.{length}
use Rattle.rules.specs.Fields.{with_kept, with_best}
use Rattle.rules.specs.Parts.{took_kept, took_book, cleared}
use Rattle.rules.specs.Mails.{on_commit}
use Rattle.rules.specs.Box.{Box, Letter, written}
use Rattle.rules.specs.Site.{Site, popped, posted}
use Rattle.rules.specs.Step.{by_turn}
use Rattle.laws.proofs.Types.{Kind}
use Rattle.laws.proofs.FormLaws.{FormedCommit}
use Rattle.laws.proofs.View.{Store, store, Spans, commit-spans, took, took-first, took-last}
use Rattle.laws.proofs.View.{took-same, took-holds}
use Rattle.laws.proofs.StepLaws.{by-settled}
use Rattle.safety.proofs.Inv.{BoxOk, CommitOk, Live, Inv}
use Rattle.safety.proofs.After.{After, after, after_same}
use Rattle.safety.proofs.Stores.{box-took}
use Rattle.safety.proofs.Base.{core-kept, ranks-kept}
use Rattle.safety.proofs.Follower.{lead-ok, head-mail, Moved, live-read}
use Rattle.safety.proofs.Quiet.{inv-popped}
use Rattle.safety.proofs.Arrival.{Arrives, arrived}

pub inv-commit : (s : Site) (i : Inv s) (a b : ℕ) (y : Letter) (ys : List Letter)
    → Arrives s a b y ys Kind.Commit
    → After s i (by_turn s (popped s a b) b (on_commit (s.box b).head y.head) y.records
    ).next
unfolding on_commit took_kept posted
inv-commit s i a b y ys r =
    by-settled (After s i) s (popped s a b) b _ _ _ _ (after_same i) (inv-popped s a b i)
    (λ go. after (record {
      core =
          core-kept i.core b v r.to
          (box-took st own F l rs sent form.first.top low ok.agreed)
          (omega arith) (omega (arith, last)) refl;
      ranks = ranks-kept i.ranks b v r.to refl refl;
      live = λ z. live-read L a b y ys r.head v moved ok.to ne refl refl refl;
    }))
  where
    F : ℕ
    F = y.head.first

    l : ℕ
    l = y.head.last

    rs : List ℕ
    rs = y.records

    L : Live s.n s.present s.box s.link i.agreed
    L = i.live r.even

    st : Store
    st = store (s.box b)

    own : BoxOk i.agreed (i.agreed.by b) st
    own = i.core.boxes b r.to

    v : Box
    v = record {
      head =
          with_best (cleared (took_kept y.head.first y.head.last (s.box b).head.kept).last
          (s.box b).head.best)
          (with_kept (took_kept y.head.first y.head.last (s.box b).head.kept)
          (s.box b).head);
      records =
          written (took_book y.head.first y.head.last (s.box b).head.kept)
          (s.box b).records y.records;
    }

    form : FormedCommit s.J l F y.head.unagreed (length rs)
    form = arrived r

    sent : Spans F l rs
    sent = commit-spans form

    ok : CommitOk s.present i.agreed L.c L.x a b l F rs
    ok = head-mail L a b y ys r.head r.apart Kind.Commit r.kind

    ne : b ≡ L.c → ⊥
    ne h = r.apart (ok.from ∙ sym h)

    low : l ≤ length i.agreed.records
    low = omega (arith, ok.le, (lead-ok i.core L).low)

    last : (took F l rs st).last ≡ max st.last l
    last = took-last F l rs st own.shaped

    moved : Moved L.x st (took F l rs st)
    moved = record {
      promise = λ f. f;
      up = omega (arith, last);
      reach = λ f. omega (arith, last, f, ok.le);
      voted = λ f.
          let none : l ≤ st.last = omega (arith, f.place, ok.le) in
          let first = took-first F l rs st own.shaped in
          record {
            place = omega (arith, last, none, f.place);
            held = took-holds F l rs st own.shaped sent none f.held;
            value =
                took-same F l rs st own.shaped sent none ((store L.x).last + 1)
                (omega (arith, first, own.shaped.top, sent.top, none, f.place))
                ∙ f.value;
            under = f.under;
          };
    }
