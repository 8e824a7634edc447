mod Played
