use Rattle.std.proofs.Common.{◌≡◌, ℕ, ◌<◌, [], ◌∷◌, ◌++◌, length, sym, ap, ◌∙◌, subst, append_assoc, length-append}
use Rattle.event_record.specs.declared.TheConstants.{MOST_EVENTS}
use Rattle.event_record.specs.Entry.{entry_of}
use Rattle.book_lock.specs.Rules.{passed}
use Rattle.book_lock.proofs.Lists.{room_left}
use Rattle.book_lock.proofs.steps.run.Goals as goal

pub control-requires : goal.control-requires
control-requires g c =
    let adm = c.requires.admitted in
    let book = c.wait_and_take-book.ensures.taken.book adm.0 (ap (λ m. m.0.base) c.draw-mine.ensures.drawn ∙ adm.1) in
    subst (λ f. g.B.Booked.admits f (entry_of c.args.lane c.args.e.now) c.args.tray.now.sessions) (sym book.0) adm.2

pub record-requires-clause-room : goal.record-requires-clause-room
record-requires-clause-room g c =
    let adm = c.requires.admitted in
    let t = c.wait_and_take-book.ensures.taken in
    let book = t.book adm.0 (ap (λ m. m.0.base) c.draw-mine.ensures.drawn ∙ adm.1) in
    let room = room_left adm.0.opening t.log _ _ _ book.1 c.in-Ok.ensures.accepted c.control.ensures.short in
    subst (λ l. length l < MOST_EVENTS) (sym (ap (λ m. m.0.found) t.is)) room

pub pass-requires-clause-holds : goal.pass-requires-clause-holds
pass-requires-clause-holds g c =
    let start = c.args.chair.now.me.0 in
    let drew = c.draw-mine.ensures.drawn in
    let t = c.wait_and_take-book.ensures.taken in
    let wrote = c.record.ensures.recorded in
    let full = c.put_back.ensures.full in
    let view = ap (λ m. m.0) full ∙ ap (λ m. m.0) wrote in
    let found : c.put_back.new.chair.me.0.found ≡ t.log ++ g.J.Recording.entry ∷ [] = ap (λ v. v.found) view ∙ ap (λ m. m.0.found ++ g.J.Recording.entry ∷ []) t.is in
    record {
      b = c.control.new.self;
      on = ap (λ v. v.turn) view ∙ ap (λ m. m.0.turn) t.is;
      some_part = subst (λ n. 0 < n) (sym (ap (λ v. v.parts) view ∙ (ap (λ m. m.0.parts) t.is ∙ ap (λ m. m.0.parts) drew))) c.requires.free.0.2;
      is = ap (λ m. m.1) full;
      book = λ y base.
          let before = t.book y (sym (ap (λ v. v.base) view ∙ ap (λ m. m.0.base) t.is) ∙ base) in (
            c.control.ensures.same ∙ before.0,
            c.in-Ok.ensures.accepted ∙ ((λ i. before.1 i ++ c.requires.picked i ∷ []) ∙ (append_assoc y.opening t.log (g.J.Recording.entry ∷ []) ∙ ap (λ l. y.opening ++ l) (sym found))),
          );
    }

pub pass_refused-requires-clause-holds : goal.pass_refused-requires-clause-holds
pass_refused-requires-clause-holds g c =
    let drew = c.draw-mine.ensures.drawn in
    let t = c.wait_and_take-book.ensures.taken in
    let full = c.put_back-in-Err.ensures.full in
    let view = ap (λ m. m.0) full ∙ ap (λ m. m.0) t.is in
    record {
      b = c.control.new.self;
      on = ap (λ v. v.turn) view;
      some_part = subst (λ n. 0 < n) (sym (ap (λ v. v.parts) view ∙ ap (λ m. m.0.parts) drew)) c.requires.free.0.2;
      is = ap (λ m. m.1) full;
      book = λ y base.
          let before = t.book y (sym (ap (λ v. v.base) view) ∙ base) in (
            c.control.ensures.same ∙ before.0,
            c.in-Err.ensures.refused.0 ∙ (before.1 ∙ ap (λ l. y.opening ++ l) (sym (ap (λ v. v.found) view))),
          );
    }

pub returns-in-Err-clause-refused : goal.returns-in-Err-clause-refused
returns-in-Err-clause-refused g c =
    let drew = c.draw-mine.ensures.drawn in
    let t = c.wait_and_take-book.ensures.taken in
    let full = c.put_back-in-Err.ensures.full in
    let view = ap (λ m. m.0) full ∙ ap (λ m. m.0) t.is in (
      length t.log,
      ap (λ m. m.0) c.pass_refused.ensures.passed ∙ ((λ i. passed (length (view i).found) (view i)) ∙ ap (λ m. passed (length t.log) m.0) drew),
      c.in-Err.ensures.refused.1,
      (λ y base.
          let before = t.book y (ap (λ m. m.0.base) drew ∙ base) in
          subst (λ (z : g.row.B-Fixed.Denot × ℕ). g.B.Booked.refuses z.0 z.1 c.in-Err.refusal) (λ i. (before.0 i, (ap length before.1 ∙ length-append y.opening t.log) i)) c.in-Err.ensures.cause),
    )
