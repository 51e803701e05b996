-- Finite graphs with letters on their edges and a flag on their nodes; the words that lead from a node for ever and reach the
-- flag; and the numbering of the nodes' classes. The situations of a sheet make such a graph, with a flag that says whether
-- each `until` is done.
use Rattle.std.specs.Prelude.{◌≡◌, ◌↔◌, ◌⊎◌, Bool, ℕ, ◌<◌, ◌≤◌, T}
use Rattle.automaton.specs.Words.{Word, InRange}
use Rattle.automaton.specs.Solutions.{SameSolutions}
use Rattle.automaton.specs.Table.{no_state, run, Follows, FirstMet, IsFlag}

-- Nodes and letters are numbered from 0. A successor that is not below the number of nodes means none. The flag `done` never
-- falls along an edge.
pub record Graph : Type 0 where
  pub nodes : ℕ
  pub letters : ℕ
  pub successor : ℕ → ℕ → ℕ
  pub done : ℕ → Bool
  pub done_stays : (s a : ℕ) → s < nodes → a < letters → successor s a < nodes → T (done s) → T (done (successor s a))

-- the node reached from s by the first t letters of w
abbrev pub node_after : (G : Graph) (s : ℕ) (w : Word) (t : ℕ) → ℕ
node_after G s w t = run G.successor s w t

-- w can be followed from s for ever
abbrev pub EndlessPath : (G : Graph) (s : ℕ) (w : Word) → Type 0
EndlessPath G s w = Follows G.nodes G.successor s w

-- the words that can be followed from s for ever and reach a done node
pub record Language (G : Graph) (s : ℕ) (w : Word) : Type 0 where
  pub follows : EndlessPath G s w
  pub time : ℕ
  pub is_done : T (G.done (node_after G s w time))

-- s and t have the same language
abbrev pub SameLanguage : (G : Graph) (s t : ℕ) → Type 0
SameLanguage G s t = SameSolutions G.letters (Language G s) (Language G t)

-- s is a node of the set L
pub record Member (G : Graph) (L : ℕ → Bool) (s : ℕ) : Type 0 where
  pub inside : s < G.nodes
  pub holds : T (L s)

-- w can be followed from s for ever through nodes of the set L
pub record PathIn (G : Graph) (L : ℕ → Bool) (s : ℕ) (w : Word) : Type 0 where
  pub at : (t : ℕ) → Member G L (node_after G s w t)

-- What the languages of the nodes tell: `live` holds the nodes whose language has a word, `final` those live nodes from which
-- every endless path through live nodes is a word of the language, and two live nodes have one class exactly if they have the
-- same language.
pub record IsAnalysis (G : Graph) (live final : ℕ → Bool) (class : ℕ → ℕ) : Type 0 where
  pub live↔word : (s : ℕ) → Member G live s ↔ ((w : Word) × InRange G.letters w × Language G s w)
  pub final↔all : (s : ℕ) → Member G live s → T (final s) ↔ ((w : Word) → InRange G.letters w → PathIn G live s w → Language G s w)
  pub class↔same : (s t : ℕ) → Member G live s → Member G live t → (class s ≡ class t) ↔ SameLanguage G s t

-- v is the entry for the node u, where state j of n states stands for the class of `node j`
abbrev pub IsNodeEntry : (G : Graph) (live : ℕ → Bool) (class : ℕ → ℕ) (n : ℕ) (node : ℕ → ℕ) (u v : ℕ) → Type 0
IsNodeEntry G live class n node u v = ((v ≡ no_state) × (¬ Member G live u)) ⊎ ((v < n) × Member G live u × (class u ≡ class (node v)))

-- The classes of live nodes that s₀ reaches, numbered in the order in which they are first met: state i stands for the class of
-- `node i`, and its final byte says whether that node is final.
pub record IsNumbering (G : Graph) (live final : ℕ → Bool) (class : ℕ → ℕ) (s₀ n : ℕ) (node : ℕ → ℕ) (entry : ℕ → ℕ → ℕ) (byte : ℕ → ℕ)
    : Type 0 where
  pub room : n ≤ no_state
  pub some_state : 0 < n
  pub start : node 0 ≡ s₀
  pub lives : (i : ℕ) → i < n → Member G live (node i)
  pub distinct : (i j : ℕ) → i < n → j < n → class (node i) ≡ class (node j) → i ≡ j
  pub first_met : (j : ℕ) → 0 < j → j < n → FirstMet G.letters entry j
  pub entries : (i a : ℕ) → i < n → a < G.letters → IsNodeEntry G live class n node (G.successor (node i) a) (entry i a)
  pub finals : (i : ℕ) → i < n → IsFlag (T (final (node i))) (byte i)
