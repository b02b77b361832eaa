-- How soon the scale is usable, of the functions for C: `journal_elect` and then `journal_run`.
use Rattle.std.specs.Prelude.{ℕ, ◌≤◌, ◌≡◌, true, List}
use Rattle.rules.specs.Site.{is_box}
use Rattle.rules.specs.declared.model.Call.{Call}
use Rattle.wait.specs.Wait.{Usable}
use Rattle.memory.specs.Memory.{site_of}
use Rattle.until.specs.Soon.{most}
use Rattle.journal.specs.Numbered.{Stepped}
use Rattle.journal.specs.Run.{RunAnswered}

-- of all words on which `journal_elect` answers 0: with 8 mails on a link or more, promises of at
-- most 999,999,800 and enough steps allowed, `journal_run` answers 0 too, and the words that it
-- leaves hold a site that is usable
pub record SoonAnswered : Type 0 where
  pub soon : (xs ls ys ms zs ns : List ℕ) (c steps u u' r : ℕ)
      → Stepped (Call.Elect c) xs ls ys ms 0 → 8 ≤ (site_of xs ls).L
      → ((b : ℕ) → is_box (site_of xs ls).n b ≡ true
      → ((site_of xs ls).box b).head.kept.pn ≤ 999999800)
      → most xs ls ≤ steps → RunAnswered steps ys ms zs ns u u' r
      → (r ≡ 0) × (u' ≤ most xs ls) × Usable c (site_of zs ns)
