-- The solutions of a sheet, as words of letter numbers, are the words all of whose prefixes are lawful records and one of whose prefixes has
-- every until done; and situations are a congruence of records. From the laws of situations (meaning) and of sets given by prefixes (automaton).
use Prim.Native.Nat.{ℕ, zero, suc}
use mathlib.Core.Path.{◌≡◌, refl, sym, ◌∙◌, ap, subst}
use mathlib.Core.List.{List, [], ◌∷◌, ◌++◌, map-append}
use lib.Dec.{T}
use Rattle.automaton.specs.Words.{Word, tail, prefix}
use Rattle.automaton.specs.Solutions.{SameSolutions, ByPrefixes, Settles}
use Rattle.automaton.specs.Situations.{IsCongruence}
use Rattle.automaton.proofs.Solutions.{solutions_sym, settles_transfer, prefixes_settle}
use Rattle.meaning.specs.Expression.{Sheet}
use Rattle.meaning.specs.Letter.{letter_count, letter_of, record_of, SolutionWord}
use Rattle.meaning.specs.Situation.{lawful, situation}
use Rattle.meaning.specs.Evaluation.{all_done}
use Rattle.meaning.proofs.Beginning.{beginning}
use Rattle.meaning.proofs.SolutionRecords.{solution-word-situations}
use Rattle.meaning.proofs.Congruence.{lawful_congruence, situation_congruence}

-- The first letters of a word, as both crates write them.
pub beginning-prefix : (w : Word) (n : ℕ) → beginning w n ≡ prefix w n
beginning-prefix w zero = refl
beginning-prefix w (suc n) = ap (w 0 ∷◌) (beginning-prefix (tail w) n)

module _ (s : Sheet) where
  -- The record with these letter numbers is lawful.
  pub record LawfulNumbers (r : List ℕ) : Type 0 where
    pub is_lawful : T (lawful s.constraints (record_of s.streams r))

  -- Every until is done in its situation.
  pub record DoneNumbers (r : List ℕ) : Type 0 where
    pub is_done : T (all_done s.constraints (situation s.constraints (record_of s.streams r)))

  -- Two records have the same situation.
  pub record AlikeNumbers (r t : List ℕ) : Type 0 where
    pub same : situation s.constraints (record_of s.streams r) ≡ situation s.constraints (record_of s.streams t)

  pub solution_prefixes : SameSolutions (letter_count s.streams) (SolutionWord s) (ByPrefixes LawfulNumbers DoneNumbers)
  solution_prefixes =
      record {
        to = λ w b x.
            let h = (solution-word-situations s w b).0 x in
            record {
              all_lawful = λ t. record { is_lawful = subst (λ r. T (lawful s.constraints (record_of s.streams r))) (beginning-prefix w t) (h.0 t) };
              time = h.1.0;
              is_done = record { is_done = subst (λ r. T (all_done s.constraints (situation s.constraints (record_of s.streams r)))) (beginning-prefix w h.1.0) h.1.1 };
            };
        from = λ w b x.
            (solution-word-situations s w b).1 (
              λ t. subst (λ r. T (lawful s.constraints (record_of s.streams r))) (sym (beginning-prefix w t)) (x.all_lawful t).is_lawful,
              (x.time, subst (λ r. T (all_done s.constraints (situation s.constraints (record_of s.streams r)))) (sym (beginning-prefix w x.time)) x.is_done.is_done),
            );
      }

  pub solutions_settle : Settles (SolutionWord s) (letter_count s.streams)
  solutions_settle = settles_transfer (solutions_sym solution_prefixes) prefixes_settle

  pub record_of_extend : (r : List ℕ) (a : ℕ) → record_of s.streams (r ++ (a ∷ [])) ≡ record_of s.streams r ++ (letter_of s.streams a ∷ [])
  record_of_extend r a = map-append (letter_of s.streams) r (a ∷ [])

  pub situations_congruence : IsCongruence (letter_count s.streams) LawfulNumbers DoneNumbers AlikeNumbers
  situations_congruence =
      record {
        symmetric = λ r t e. record { same = sym e.same };
        transitive = λ r t u e f. record { same = e.same ∙ f.same };
        lawful_extend = λ r t a ha e lr lt h.
            record {
              is_lawful =
                  rw (record_of_extend t a)
                  (subst T (lawful_congruence s.constraints (record_of s.streams r) (record_of s.streams t) (letter_of s.streams a) lr.is_lawful lt.is_lawful e.same) (rw (record_of_extend r a) at h.is_lawful));
            };
        alike_extend = λ r t a ha e lr lt.
            record {
              same = rw (record_of_extend r a, record_of_extend t a) (situation_congruence s.constraints (record_of s.streams r) (record_of s.streams t) (letter_of s.streams a) e.same);
            };
        done_alike = λ r t e lr lt d. record { is_done = subst (λ x. T (all_done s.constraints x)) e.same d.is_done };
      }
