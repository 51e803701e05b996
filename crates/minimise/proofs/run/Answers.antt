-- `minimise::run` meets its contract: the passes run where the tables hold a graph and the work tables have room, on work tables that
-- are cut to the rows.
use Prim.Native.Nat.{ℕ, ◌≤◌}
use mathlib.Core.Path.{◌≡◌, refl, sym, ◌∙◌}
use mathlib.Core.Logic.{inl}
use mathlib.Core.List.{List, [], ◌∷◌, ◌++◌}
use lib.ListN.{length, take, drop}
use lib.Seq.{length-take-le, take_at}
use Rattle.basics.proofs.Answers.{says_yes, says_no}
use Rattle.minimise.specs.Outcome.{WorkHasRoom}
use Rattle.minimise.proofs.Reducing.{judged-word, word_rows, judged_ran, tabled_ran}
use Rattle.minimise.proofs.run.Goals as goal

-- a work table that is cut to the rows holds as many
cut : (rows : ℕ) (list : List ℕ) → rows ≤ length list → rows ≡ length (take rows list)
cut rows list h = sym (length-take-le rows list h)

pub returns-then-not-have_room : goal.returns-then-not-have_room
returns-then-not-have_room c = inl (refl, inl (record { no_room = λ a. says_no c.if-not-have_room.true c.have_room.ensures (a.1.0, a.1.1.0, a.1.1.1.0, a.1.1.1.1.0, a.1.1.1.1.1.0, a.1.1.1.1.1.1.0); refused = refl }))

pub returns-then-refusal-ne0 : goal.returns-then-refusal-ne0
returns-then-refusal-ne0 c =
    let room : let args = c.args in WorkHasRoom args.rows (args.live.now ∷ (args.class.now ∷ (args.next.now ∷ (args.heads.now ∷ (args.links.now ∷ (args.envelopes.now ∷ [])))))) = (let h = says_yes c.if-not-have_room.false c.have_room.ensures in
    (h.0, (h.1, (h.2, (h.3, (h.4, (h.5, tt))))))) in
    let args = c.args in judged_ran (sym (cut args.rows args.live.now (room).0)) (room) c.if-refusal-ne0.true c.find_refusal-refusal.ensures

pub build_table-states-requires : goal.build_table-states-requires
build_table-states-requires c =
    let room : let args = c.args in WorkHasRoom args.rows (args.live.now ∷ (args.class.now ∷ (args.next.now ∷ (args.heads.now ∷ (args.links.now ∷ (args.envelopes.now ∷ [])))))) = (let h = says_yes c.if-not-have_room.false c.have_room.ensures in
    (h.0, (h.1, (h.2, (h.3, (h.4, (h.5, tt))))))) in
    let again : let args = c.args in take args.rows (c.find_refusal-refusal.new.live ++ drop args.rows args.live.now) ≡ c.find_refusal-refusal.new.live = (let args = c.args in
    take_at c.find_refusal-refusal.new.live (drop args.rows args.live.now) args.rows (c.find_refusal-refusal.auto.live ∙ sym (cut args.rows args.live.now (room).0))) in
    let args = c.args in
    let h = room in
    let find = c.find_refusal-refusal in
    let same : args.rows ≡ length find.new.live = cut args.rows args.live.now h.0 ∙ sym find.auto.live in
    rw (again) (record {
      has_word = word_rows (judged-word c.if-refusal-ne0.false find.ensures);
      class_len = (
        sym (cut args.rows args.class.now h.1.0) ∙ same,
        sym (cut args.rows args.next.now h.1.1.0) ∙ same,
        sym (cut args.rows args.heads.now h.1.1.1.0) ∙ same,
        sym (cut args.rows args.links.now h.1.1.1.1.0) ∙ same,
        sym (cut args.rows args.envelopes.now h.1.1.1.1.1.0) ∙ same,
      );
    })

pub returns : goal.returns
returns c =
    let room : let args = c.args in WorkHasRoom args.rows (args.live.now ∷ (args.class.now ∷ (args.next.now ∷ (args.heads.now ∷ (args.links.now ∷ (args.envelopes.now ∷ [])))))) = (let h = says_yes c.if-not-have_room.false c.have_room.ensures in
    (h.0, (h.1, (h.2, (h.3, (h.4, (h.5, tt))))))) in
    let again : let args = c.args in take args.rows (c.find_refusal-refusal.new.live ++ drop args.rows args.live.now) ≡ c.find_refusal-refusal.new.live = (let args = c.args in
    take_at c.find_refusal-refusal.new.live (drop args.rows args.live.now) args.rows (c.find_refusal-refusal.auto.live ∙ sym (cut args.rows args.live.now (room).0))) in
    let args = c.args in
    let h = room in
    let find = c.find_refusal-refusal in
    tabled_ran (rw (again) (find.auto.live ∙ sym (cut args.rows args.live.now h.0))) h c.build_table-states.ensures
